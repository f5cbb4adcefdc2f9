use Rattle.std.proofs.Common.{◌≡◌, ◌^◌, ◌<◌, List, drop}
use Rattle.std.specs.Option.{option_map}
use Rattle.spec_rules.specs.Role.{ElementRole}
use Rattle.spec_rules.specs.Profile.{channels_of_sub_mix}
use Rattle.iamf_rules.specs.Totals.{capped, HasTotals}
use Rattle.iamf_rules.proofs.Totals.{with_rest}
use Rattle.iamf_rules.proofs.channels.of_elements.Given as goal

abbrev pub invariant-loop-id : goal.invariant-loop-id
invariant-loop-id l = record {
  small : l.total < 2 ^ 32;
  whole : (es : List ElementRole) → HasTotals l.totals es → option_map capped (channels_of_sub_mix es l.elements) ≡ with_rest l.total (channels_of_sub_mix es (drop l.id-index l.elements));
}
