-- What a draft holds of the OBUs that were read.
use Rattle.std.specs.Prelude.{◌≡◌, ℕ, List, [], map}
use Rattle.spec_sequence.specs.Reading.{Entry, values_of, roles}
use Rattle.iamf_sequence.specs.declared.draft.Draft.{Draft}
use Rattle.iamf_sequence.specs.ContentsView.{AreContents}
use Rattle.iamf_sequence.specs.Places.{Tiles}
use Rattle.iamf_sequence.specs.SequenceView.{AreViews, numbers_after, views_of}

-- It has the views of these OBUs, which tile the bytes up to a place, the numbers of their units, and what they say.
pub record IsPlaced (d : Draft) (bytes : List ℕ) (at : ℕ) (l : List Entry) : Type 0 where
  pub contents : AreContents d.contents (values_of l)
  pub views : AreViews (views_of d.obus.items) l
  pub tiles : Tiles bytes 0 (views_of d.obus.items) at
  pub numbers : map (λ o. o.unit) d.obus.items ≡ numbers_after [] (roles l)
