-- However a record is cut into pieces, what is answered is the same.
use Rattle.std.proofs.Common.{◌≡◌, ℕ, List, [], ◌∷◌, ◌++◌, Result, Ok, Err, refl, sym, ap, subst, ◌∙◌, append_assoc, inl, inr}
use Rattle.record_game.specs.declared.fault.Refusal.{Refusal}
use Rattle.record_game.specs.declared.fault.Why.{Why}
use Rattle.record_game.specs.Game.{Game}
use Rattle.record_game.specs.Pieces.{joined, ReadsPieces, accepted, refused, refused_at_end}
use Rattle.record_game.specs.Refused.{Refused}
use Rattle.record_game.specs.Tells.{Tells}
use Rattle.record_game.proofs.TellsOnce.{stated_or_refused}
use Rattle.record_game.proofs.SaysOnce.{tells_once}
use Rattle.record_game.proofs.RefusedOnce.{refused_once}

pub joined_both : (front others : List (List ℕ)) → joined (front ++ others) ≡ joined front ++ joined others
joined_both [] others = refl
joined_both (piece ∷ front) others =
    ap (λ xs. piece ++ xs) (joined_both front others) ∙ sym (append_assoc piece (joined front) (joined others))

pub joined_at : (front : List (List ℕ)) (piece : List ℕ) (others : List (List ℕ))
    → joined (front ++ piece ∷ others) ≡ (joined front ++ piece) ++ joined others
joined_at front piece others =
    joined_both front (piece ∷ others) ∙ sym (append_assoc (joined front) piece (joined others))

-- the answer of the bytes
abbrev AnswerOf : List ℕ → Result Game Refusal → Type 0
AnswerOf source (Ok g) = Tells source g
AnswerOf source (Err r) = Refused source r.number r.offset r.why

answer_of : (pieces : List (List ℕ)) (a : Result Game Refusal) → ReadsPieces pieces a → AnswerOf (joined pieces) a
answer_of pieces a (accepted g stated) = stated
answer_of pieces a (refused front piece others r is always) =
    let whole : joined pieces ≡ (joined front ++ piece) ++ joined others = ap joined is ∙ joined_at front piece others in
    subst (λ source. Refused source r.number r.offset r.why) (sym whole) (always (joined others))
answer_of pieces a (refused_at_end r at_end) = at_end

never_both : (source : List ℕ) (g : Game) (n o : ℕ) (w : Why) → Tells source g → Refused source n o w → ⊥
never_both source g n o w stated no_game = elim (stated_or_refused source) [
  | inl alone ↦ alone.not_refused n o w no_game
  | inr alone ↦ alone.tells_no_game g stated
]

abbrev refusal : ℕ → ℕ → Why → Refusal
refusal number offset why = record { number = number; offset = offset; why = why }

same_refusal : (r s : Refusal) → (s.number ≡ r.number) × (s.offset ≡ r.offset) × (s.why ≡ r.why) → r ≡ s
same_refusal r s h =
    ap (λ n. refusal n r.offset r.why) (sym h.0) ∙ (ap (λ o. refusal s.number o r.why) (sym h.1) ∙ ap (λ w. refusal s.number s.offset w) (sym h.2))

answer_once : (source : List ℕ) (a b : Result Game Refusal) → AnswerOf source a → AnswerOf source b → a ≡ b
answer_once source (Ok g) (Ok h) p q = ap Ok (tells_once source g h p q)
answer_once source (Ok g) (Err r) p q = absurd (never_both source g r.number r.offset r.why p q)
answer_once source (Err r) (Ok h) p q = absurd (never_both source h r.number r.offset r.why q p)
answer_once source (Err r) (Err s) p q = ap Err (same_refusal r s (refused_once source r.number r.offset s.number s.offset r.why s.why p q))

pub cut_alike : (pieces others : List (List ℕ)) (a b : Result Game Refusal) → joined pieces ≡ joined others
    → ReadsPieces pieces a → ReadsPieces others b → a ≡ b
cut_alike pieces others a b same p q =
    answer_once (joined others) a b (subst (λ source. AnswerOf source a) same (answer_of pieces a p)) (answer_of others b q)
