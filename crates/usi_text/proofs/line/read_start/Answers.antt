use Rattle.std.proofs.Common.{inl}
use Rattle.usi_text.specs.Words.{words}
use Rattle.usi_text.proofs.Played.{sfen_answered}
use Rattle.usi_text.proofs.line.read_start.Goals as goal

pub returns-in-Even : goal.returns-in-Even
returns-in-Even c = λ ws moves given. let even = rw c.in-Even.is at given in inl (even, c.even.ensures.value)

pub returns-in-Sfen : goal.returns-in-Sfen
returns-in-Sfen c = λ ws moves given.
    let line = rw c.in-Sfen.is at given in
    sfen_answered ws (words c.in-Sfen.text.now) moves c.read_sfen.result line c.read_sfen.ensures.stated
