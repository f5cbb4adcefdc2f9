-- Lines of tags.
use Rattle.std.proofs.Common.{◌≡◌, [], ◌∷◌, ◌++◌, refl}
use Rattle.std.specs.Prelude.{codes}
use Rattle.spec_report.specs.Report.{tag_line}

a_tag : tag_line (record { name = codes "lang"; value = codes "en" }) ≡ codes "tag lang en" ++ 10 ∷ []
a_tag = refl

-- a space is escaped, and an empty value leaves the space before it
with_a_space : tag_line (record { name = codes "a b"; value = [] }) ≡ codes "tag a\\20b " ++ 10 ∷ []
with_a_space = refl

-- a backslash, the last byte that is not printed, and a byte above 127
others : tag_line (record { name = 92 ∷ []; value = 127 ∷ 128 ∷ [] }) ≡ codes "tag \\5c \\7f" ++ 128 ∷ 10 ∷ []
others = refl
