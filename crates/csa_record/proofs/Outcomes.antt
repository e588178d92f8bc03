-- The outcome for a statement whose item has an answer.
use Rattle.std.proofs.Common.{ℕ, List, Option, Some, None, Result, Ok, Err, sym, subst, inl, inr}
use Rattle.csa_text.specs.Saying.{Saying}
use Rattle.csa_text.specs.Spelling.{Spells}
use Rattle.record_game.specs.declared.fault.Why.{Why}
use Rattle.record_game.specs.Answer.{IsAnswer}
use Rattle.record_game.specs.Keeping.{Kept}
use Rattle.record_game.specs.Taking.{TakenOrRefused}
use Rattle.record_game.specs.Outcome.{Outcome}
use Rattle.record_game.specs.Refused.{AnswersItem}

by_answer : (before : List Saying) (bytes : List ℕ) (s : Saying) (why : Why) (new : Kept) (answer : Option Why) → Spells bytes s → AnswersItem before s answer → IsAnswer answer (Err why) → Outcome before bytes (Err why) new
by_answer before bytes s why new None spells answers is = inl (is, (s, (spells, answers)))
by_answer before bytes s why new (Some fault) spells answers is = inr (inr (s, spells, subst (λ w. AnswersItem before s (Some w)) (sym is) answers))

taken : (before : List Saying) (s : Saying) (answer : Option Why) → AnswersItem before s answer → IsAnswer answer (Ok tt) → AnswersItem before s None
taken before s None answers is = answers
taken before s (Some fault) answers is = absurd is

pub outcome_of : (before : List Saying) (bytes : List ℕ) (s : Saying) (result : Result (Unit {0}) Why) (new : Kept) → Spells bytes s → TakenOrRefused before s result new → Outcome before bytes result new
outcome_of before bytes s (Ok u) new spells (answer, answers, is, keeps) = (s, (spells, taken before s answer answers is), keeps)
outcome_of before bytes s (Err why) new spells (answer, answers, is, keeps) = by_answer before bytes s why new answer spells answers is
