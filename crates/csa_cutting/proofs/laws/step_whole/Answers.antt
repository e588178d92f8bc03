use Rattle.csa_cutting.proofs.laws.step_whole.Goals as goal

pub returns : goal.returns
returns c = record {
  stated = λ old new piece result. (λ h. record { going = h.0; number_is = h.1; place = h.2; after = h.3 }, λ s. (s.going, s.number_is, s.place, s.after));
}
