-- The bytes of one line.
use Rattle.std.proofs.Common.{◌≡◌, ℕ, List, [], ◌∷◌, sym}
use Rattle.std.proofs.lemmas.List.{append-nil}
use Rattle.session_lines.specs.Texts.{text_of, ended_line}

pub one_text : (line : List ℕ) → ended_line line ≡ text_of (line ∷ [])
one_text line = sym (append-nil (ended_line line))
