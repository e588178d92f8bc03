use Rattle.std.proofs.Common.{◌≡◌, ℕ, ◌<◌, arith, get_or, refl}
use Rattle.csa_text.specs.declared.ending.Ending.{Ending}
use Rattle.csa_text.specs.declared.ending.Ending.TheVariants.{Toryo, Chudan, Sennichite, TimeUp, IllegalMove, BlackIllegalAction, WhiteIllegalAction, Jishogi, Kachi, Hikiwake, MaxMoves, Matta, Tsumi, Fuzumi, Error}
use Rattle.csa_text.proofs.Codings.{all_endings}
use Rattle.csa_text.proofs.ending.read_ending.Goals as goal

placed : (e : Ending) → (k : ℕ) × (k < 15) × (get_or all_endings k Toryo ≡ e)
placed Toryo = (0, omega arith, refl)
placed Chudan = (1, omega arith, refl)
placed Sennichite = (2, omega arith, refl)
placed TimeUp = (3, omega arith, refl)
placed IllegalMove = (4, omega arith, refl)
placed BlackIllegalAction = (5, omega arith, refl)
placed WhiteIllegalAction = (6, omega arith, refl)
placed Jishogi = (7, omega arith, refl)
placed Kachi = (8, omega arith, refl)
placed Hikiwake = (9, omega arith, refl)
placed MaxMoves = (10, omega arith, refl)
placed Matta = (11, omega arith, refl)
placed Tsumi = (12, omega arith, refl)
placed Fuzumi = (13, omega arith, refl)
placed Error = (14, omega arith, refl)

pub returns : goal.returns
returns c = λ e h.
    let p = placed e in
    c.loop-ending.invariant p.0 (omega (arith, p.1, c.loop-ending-test.false)) (rw p.2 h)
