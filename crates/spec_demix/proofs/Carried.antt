-- That a list fits says the same by the lists of what layers transmit, as it is defined, and by kinds of channels.
use Rattle.std.proofs.Common.{arith, ℕ, suc, ℤ, List}
use Rattle.spec_demix.specs.declared.DemixLayer.{DemixLayer}
use Rattle.spec_demix.specs.Downmix.{Channels, down}
use Rattle.spec_demix.specs.Fits.{FitsOver}
use Rattle.spec_demix.specs.Sent.{layer_at, kinds_of, place_after, sent_by, IsLayers}
use Rattle.spec_demix.proofs.KindFits.{FitsKinds}
use Rattle.spec_demix.proofs.FirstCarried.{first_by_kinds, first_by_lists}
use Rattle.spec_demix.proofs.NextCarried.{next_by_kinds, next_by_lists}
use Rattle.spec_gains.proofs.ModeLemmas.{Row, of}

pub fits_kinds : (layers : List DemixLayer) (target : ℕ) (mode : Row) (w : ℕ) (coded : List ℤ) (bottom : ℕ) (x : Channels) → IsLayers layers target → FitsOver layers target (of mode) w coded bottom x
    → FitsKinds (kinds_of layers) target mode w (sent_by layers coded) bottom x
fits_kinds layers target mode w coded bottom x chain f =
    let v = down (kinds_of layers target) (of mode) w x in
    let first = layer_at layers 0 in
    record {
      some = f.some;
      first = first_by_kinds first.layout first.flags first.factor bottom coded v (chain.speakers 0 (omega arith)) f.first;
      next = λ j h. next_by_kinds (layer_at layers j).layout (layer_at layers (suc j)) bottom coded (place_after layers j) v (chain.steps j h).keeps_height (f.next j h);
    }

pub fits_lists : (layers : List DemixLayer) (target : ℕ) (mode : Row) (w : ℕ) (coded : List ℤ) (bottom : ℕ) (x : Channels) → IsLayers layers target
    → FitsKinds (kinds_of layers) target mode w (sent_by layers coded) bottom x → FitsOver layers target (of mode) w coded bottom x
fits_lists layers target mode w coded bottom x chain f =
    let v = down (kinds_of layers target) (of mode) w x in
    let first = layer_at layers 0 in
    record {
      some = f.some;
      first = first_by_lists first.layout first.flags first.factor bottom coded v (chain.speakers 0 (omega arith)) f.first;
      next = λ j h. next_by_lists (layer_at layers j).layout (layer_at layers (suc j)) bottom coded (place_after layers j) v (chain.steps j h).keeps_height (f.next j h);
    }
