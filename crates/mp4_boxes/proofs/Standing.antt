-- A box that is read stands where it was read.
use Rattle.std.proofs.Common.{ℕ, ◌<◌, Bool, List, Result, Ok, Err, arith}
use Rattle.std.specs.Prelude.{IfOk, IfErr}
use Rattle.spec_boxes.specs.declared.fault.BoxRefusal.{BoxRefusal}
use Rattle.spec_boxes.specs.Boxes.{box_at, Gives}
use Rattle.spec_boxes.specs.Tiling.{Stands, NoneStands}
use Rattle.spec_boxes.proofs.TilingLaws as law
use Rattle.mp4_boxes.specs.declared.box_view.BoxView.{BoxView}
use Rattle.mp4_boxes.specs.Views.{box_of}

pub stands : (top : Bool) (f : List ℕ) (at end : ℕ) (r : Result BoxView BoxRefusal) → at < end → Gives box_of r (box_at top f at end) → IfOk r (λ b. Stands top f end (box_of b))
stands top f at end (Ok b) less h = (law.read_stands top f at end (box_of b) (omega arith) h).1
stands top f at end (Err e) less h = tt

pub none_stands : (top : Bool) (f : List ℕ) (at end : ℕ) (r : Result BoxView BoxRefusal) → Gives box_of r (box_at top f at end) → IfErr r (NoneStands top f at end)
none_stands top f at end (Ok b) h = tt
none_stands top f at end (Err e) h = law.none_stands top f at end e h
