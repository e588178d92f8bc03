use Rattle.std.proofs.Common.{◌≡◌, ℕ, ◌<◌, get_or}
use Rattle.csa_text.specs.Endings.{ending_name}
use Rattle.csa_text.proofs.Codings.{all_endings}
use Rattle.csa_text.specs.declared.ending.Ending.TheVariants.{Toryo}
use Rattle.csa_text.proofs.ending.read_ending.Given as goal

-- none of the endings so far has the name
abbrev pub invariant-loop-ending : goal.invariant-loop-ending
invariant-loop-ending l = (k : ℕ) → k < l.ending-index → l.name ≡ ending_name (get_or all_endings k Toryo) → ⊥
