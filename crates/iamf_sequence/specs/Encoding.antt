-- Which OBU a view is of.
use Rattle.std.specs.Prelude.{◌≡◌, ℕ, List}
use Rattle.spec_bits.specs.Bits.{AreBytes}
use Rattle.spec_blocks.specs.Shape.{Definition}
use Rattle.spec_values.specs.Value.{ObuValue, Spells}
use Rattle.obu_header.specs.declared.view.ObuView.{ObuView}
use Rattle.obu_header.specs.View.{head_of}
use Rattle.iamf_obu.specs.ContentWriting.{context}

-- Some bytes spell the OBU, and the view is of them, where this is the frame length and these are the definitions.
pub record IsViewOf (frame_length : ℕ) (definitions : List Definition) (view : ObuView) (o : ObuValue) : Type 0 where
  pub head : o.head ≡ head_of view.head
  pub bytes : List ℕ
  pub are : AreBytes bytes
  pub spells : Spells (context frame_length definitions) o view.payload.now bytes
