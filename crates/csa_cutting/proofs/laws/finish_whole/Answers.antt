use Rattle.csa_cutting.proofs.laws.finish_whole.Goals as goal

pub returns : goal.returns
returns c = record {
  stated = λ old new result. (λ h. record { going = h.0; last = h.1; number_is = h.2; place = h.3; after = h.4 }, λ s. (s.going, s.last, s.number_is, s.place, s.after));
}
