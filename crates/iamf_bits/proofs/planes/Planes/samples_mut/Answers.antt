use Rattle.std.proofs.Common.{ℕ, ◌++◌, length, take, drop, refl, ap, ◌∙◌}
use Rattle.iamf_bits.specs.Rows.{Rows, with_samples}
use Rattle.iamf_bits.proofs.planes.Planes.samples_mut.Goals as goal

pub returns : goal.returns
returns c =
    let i = c.self.inside in (
      (
        refl,
        λ w.
            ap (λ (n : ℕ). record { channels = i.channels; length = i.length; samples = take n (w ++ drop (length w) i.samples.items) }) c.self.invariant.0
            ∙ ap (λ (rows : Rows). with_samples rows w) c.self.view_is,
      ),
      record { writes_back = tt; value = c.as_mut_slice.ensures.value ∙ ap (λ (rows : Rows). rows.samples) c.self.view_is },
    )
