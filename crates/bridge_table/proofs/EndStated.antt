-- What the lines from the end of play on say of it, as more come.
use Rattle.std.proofs.Common.{◌≡◌, ℕ, ◌++◌, Bool, true, false, List, [], ◌∷◌, Option, Some, None, refl, sym, ap, subst, ◌∙◌}
use Rattle.record_game.specs.Game.{Ended}
use Rattle.bridge_table.specs.Logs.{IsKeptEnding, result_in, reason_in}
use Rattle.bridge_table.specs.Row.{first_reason, with_reason}
use Rattle.session_lines.specs.declared.server_words.GameResult.{GameResult}
use Rattle.session_lines.specs.declared.server_words.EndReason.{EndReason}
use Rattle.session_lines.specs.ServerLines.{is_ending_line, is_hash_line, TellsEnding, outcome_of, reason_of}
use Rattle.bridge_table.specs.State.{Finish, nothing_stated}
use Rattle.session_lines.proofs.LinesRead.{ending_or_hash}
use Rattle.bridge_table.proofs.RowOnce.{no_outcome, result_hash}

abbrev Lines : Type 0
Lines = List (List ℕ)

pub record EndReport (rest : Lines) (f : Finish) (result : Option GameResult) : Type 0 where
  pub kept : IsKeptEnding rest f.kept
  pub reason : f.reason ≡ reason_in rest
  pub result_is : result ≡ result_in rest

-- 1. one line more, before a result
abbrev next_reason : Option EndReason → List ℕ → Bool → Option GameResult → Option EndReason
next_reason old l false result = old
next_reason old l true None = first_reason old (reason_of l)
next_reason old l true (Some o) = old

record Grows (ls : Lines) (l : List ℕ) (v : Bool) (result : Option GameResult) : Type 0 where
  reason : reason_in (ls ++ l ∷ []) ≡ next_reason (reason_in ls) l v result
  result_is : result_in (ls ++ l ∷ []) ≡ result

first_result : (l : List ℕ) (result : Option GameResult) → outcome_of l ≡ result → result_in (l ∷ []) ≡ result
first_result l None e = rw e refl
first_result l (Some o) e = rw e refl

first_line : (l : List ℕ) (v : Bool) (result : Option GameResult) → is_hash_line l ≡ v → outcome_of l ≡ result → Grows [] l v result
first_line l false result h e = record { reason = rw h refl; result_is = first_result l result e }
first_line l true None h e = record { reason = rw (h, e) refl; result_is = first_result l None e }
first_line l true (Some o) h e = record { reason = rw (h, e) refl; result_is = first_result l (Some o) e }

stands : (old : EndReason) (l : List ℕ) (v : Bool) (result : Option GameResult) → Some old ≡ next_reason (Some old) l v result
stands old l false result = refl
stands old l true None = refl
stands old l true (Some o) = refl

after_line : (m l : List ℕ) (ls : Lines) (v w : Bool) (result other : Option GameResult) → is_hash_line m ≡ w → outcome_of m ≡ other → result_in (m ∷ ls) ≡ None
    → (result_in ls ≡ None → Grows ls l v result) → Grows (m ∷ ls) l v result
after_line m l ls v w result (Some o) h e none more = absurd (no_outcome o (rw e at none))
after_line m l ls v true result None h e none more = record { reason = rw (h, e) (stands (reason_of m) l v result); result_is = rw e (more (rw e at none)).result_is }
after_line m l ls v false result None h e none more =
    let grown = more (rw e at none) in record { reason = rw h grown.reason; result_is = rw e grown.result_is }

grows : (ls : Lines) (l : List ℕ) (v : Bool) (result : Option GameResult) → is_hash_line l ≡ v → outcome_of l ≡ result → result_in ls ≡ None → Grows ls l v result
grows [] l v result h e none = first_line l v result h e
grows (m ∷ ls) l v result h e none = after_line m l ls v (is_hash_line m) result (outcome_of m) refl refl none (grows ls l v result h e)

-- 2. what the end of play and one line more say
not_hash : (l : List ℕ) (b : Bool) → is_hash_line l ≡ b → (b ≡ true → ⊥) → is_hash_line l ≡ false
not_hash l true e n = absurd (n refl)
not_hash l false e n = e

ending_no_hash : (l : List ℕ) → is_ending_line l ≡ true → is_hash_line l ≡ false
ending_no_hash l sign = not_hash l (is_hash_line l) refl (ending_or_hash l sign)

pub no_result_of : (l : List ℕ) (o : Option GameResult) → outcome_of l ≡ o → is_hash_line l ≡ false → outcome_of l ≡ None
no_result_of l None e h = e
no_result_of l (Some o) e h = absurd (let f = result_hash l o e in cc)

keeps_on : (l : List ℕ) (rest more : Lines) (kept : Option Ended) → IsKeptEnding (l ∷ rest) kept → IsKeptEnding (l ∷ more) kept
keeps_on l rest more None h = h
keeps_on l rest more (Some e) h = h

pub stated_ending : (l : List ℕ) (e : Ended) → is_ending_line l ≡ true → TellsEnding l e → EndReport (l ∷ []) (record { kept = Some e; reason = None }) None
stated_ending l e sign tells =
    let grown = first_line l false None (ending_no_hash l sign) (no_result_of l (outcome_of l) refl (ending_no_hash l sign)) in
    record { kept = (sign, tells); reason = sym grown.reason; result_is = sym grown.result_is }

-- a line that begins with `#`: a reason, or the result
abbrev pub after_hash : Finish → List ℕ → Option GameResult → Finish
after_hash f l None = with_reason f (reason_of l)
after_hash f l (Some o) = f

kept_after : (f : Finish) (l : List ℕ) (o : Option GameResult) → (after_hash f l o).kept ≡ f.kept
kept_after f l None = refl
kept_after f l (Some o) = refl

reason_after : (f : Finish) (l : List ℕ) (o : Option GameResult) → (after_hash f l o).reason ≡ next_reason f.reason l true o
reason_after f l None = refl
reason_after f l (Some o) = refl

pub stated_hash : (l : List ℕ) (o : Option GameResult) → is_hash_line l ≡ true → outcome_of l ≡ o → EndReport (l ∷ []) (after_hash nothing_stated l o) o
stated_hash l o sign e =
    let grown = first_line l true o sign e in
    let none : IsKeptEnding (l ∷ []) None = λ h. ending_or_hash l h.0 sign in
    record {
      kept = subst (IsKeptEnding (l ∷ [])) (sym (kept_after nothing_stated l o)) none;
      reason = reason_after nothing_stated l o ∙ sym grown.reason;
      result_is = sym grown.result_is;
    }

pub stated_hash_more : (line l : List ℕ) (rest : Lines) (f : Finish) (o : Option GameResult) → EndReport (line ∷ rest) f None → is_hash_line l ≡ true → outcome_of l ≡ o
    → EndReport (line ∷ (rest ++ l ∷ [])) (after_hash f l o) o
stated_hash_more line l rest f o h sign e =
    let grown = grows (line ∷ rest) l true o sign e (sym h.result_is) in
    record {
      kept = subst (IsKeptEnding (line ∷ (rest ++ l ∷ []))) (sym (kept_after f l o)) (keeps_on line rest (rest ++ l ∷ []) f.kept h.kept);
      reason = reason_after f l o ∙ (ap (λ why. next_reason why l true o) h.reason ∙ sym grown.reason);
      result_is = sym grown.result_is;
    }

-- a line that does not begin with `#`
pub stated_more : (line l : List ℕ) (rest : Lines) (f : Finish) → EndReport (line ∷ rest) f None → is_hash_line l ≡ false → EndReport (line ∷ (rest ++ l ∷ [])) f None
stated_more line l rest f h other =
    let grown = grows (line ∷ rest) l false None other (no_result_of l (outcome_of l) refl other) (sym h.result_is) in
    record { kept = keeps_on line rest (rest ++ l ∷ []) f.kept h.kept; reason = h.reason ∙ sym grown.reason; result_is = sym grown.result_is }

-- 3. whatever follows a result
record Closed (ls ms : Lines) (o : GameResult) : Type 0 where
  reason : reason_in (ls ++ ms) ≡ reason_in ls
  result_is : result_in (ls ++ ms) ≡ Some o

closed_by : (l : List ℕ) (ls ms : Lines) (o : GameResult) (v : Bool) (result : Option GameResult) → is_hash_line l ≡ v → outcome_of l ≡ result → result_in (l ∷ ls) ≡ Some o
    → (result_in ls ≡ Some o → Closed ls ms o) → Closed (l ∷ ls) ms o
closed_by l ls ms o true (Some q) h e r more = record { reason = rw h refl; result_is = rw e (rw e at r) }
closed_by l ls ms o false (Some q) h e r more = absurd (let f = result_hash l q e in cc)
closed_by l ls ms o true None h e r more = record { reason = rw h refl; result_is = rw e (more (rw e at r)).result_is }
closed_by l ls ms o false None h e r more = let all = more (rw e at r) in record { reason = rw h all.reason; result_is = rw e all.result_is }

closed : (ls ms : Lines) (o : GameResult) → result_in ls ≡ Some o → Closed ls ms o
closed [] ms o e = absurd (no_outcome o (sym e))
closed (l ∷ ls) ms o e = closed_by l ls ms o (is_hash_line l) (outcome_of l) refl refl e (closed ls ms o)

pub stated_closed : (line : List ℕ) (rest more : Lines) (f : Finish) (o : GameResult) → EndReport (line ∷ rest) f (Some o) → EndReport (line ∷ (rest ++ more)) f (Some o)
stated_closed line rest more f o h =
    let all = closed (line ∷ rest) more o (sym h.result_is) in
    record { kept = keeps_on line rest (rest ++ more) f.kept h.kept; reason = h.reason ∙ sym all.reason; result_is = sym all.result_is }
