-- What is refused whatever follows it is refused at a closed statement: after an open one 4,097 As
-- would make it too long.
use Rattle.std.proofs.Common.{◌≡◌, ℕ, ◌+◌, ◌<◌, ◌≤◌, Bool, true, false, List, [], ◌∷◌, ◌++◌, filter, length, Option, Some, None, Result, Ok, Err, refl, sym, ◌∙◌, subst, arith, inl, inr, replicate, length-append, if◌then◌else◌}
use Rattle.std.proofs.lemmas.Bool.{cases_Bool}
use Rattle.std.proofs.lemmas.Bool.Decides.{nat_tests}
use Rattle.std.proofs.lemmas.List.{append-nil, length-replicate}
use Rattle.shogi_board.specs.Layout.{Layout}
use Rattle.shogi_board.specs.declared.color.Color.{Color}
use Rattle.shogi_board.specs.declared.setup.SetupFault.{SetupFault}
use Rattle.shogi_rules.specs.declared.line.PlayFault.{PlayFault}
use Rattle.shogi_rules.specs.declared.line.PlayFault.TheVariants as playing
use Rattle.csa_cutting.specs.Cut.{TextUnit, statement_bytes}
use Rattle.csa_cutting.specs.ClosedStatements.{is_closed}
use Rattle.csa_cutting.proofs.Joining.{filter_joined}
use Rattle.csa_cutting.proofs.Once.{statements_once}
use Rattle.csa_cutting.proofs.Opened.{as_grown, open_as, cut_begins, fronts_closed}
use Rattle.csa_text.specs.Saying.{Saying, version, name, header, even, rank, pieces, turn, walked, time, ending}
use Rattle.csa_text.specs.Spelling.{fault_of_row}
use Rattle.csa_text.specs.declared.fault.TextFault.{TextFault}
use Rattle.csa_text.specs.declared.fault.TextFault.TheVariants.{StatementTooLong, BadVersion, BadHeader, BadPosition, BadMove, BadTime, UnknownEnding, Unknown}
use Rattle.record_game.specs.declared.fault.OrderFault.{OrderFault}
use Rattle.record_game.specs.declared.fault.OrderFault.TheVariants.{MissingTurn}
use Rattle.record_game.specs.declared.fault.Why.{Why}
use Rattle.record_game.specs.declared.fault.Why.TheVariants.{Text, Order}
use Rattle.record_game.specs.Closed.{ClosedAt}
use Rattle.record_game.specs.Order.{order_fault}
use Rattle.record_game.specs.LaidOut.{laid_out}
use Rattle.record_game.specs.Refused.{Finishes, IsJudged, AnswersInOrder, AnswersAfter, Fault, Refused, RefusedAt, RefusedAtEnd, start_why}

-- no other fault is that of a statement that is too long
start_other : (laid : Result Layout SetupFault) → Some (Text StatementTooLong) ≡ start_why laid → ⊥
start_other (Ok s) h = cc
start_other (Err f) h = cc

finish_other : (laid : Result Layout SetupFault) (color : Color) → Finishes laid color (Some (Text StatementTooLong)) → ⊥
finish_other (Err f) color h = h
finish_other (Ok s) color h = let e = h.1 in cc

judged_other : (played : Option PlayFault) → IsJudged played (Some (Text StatementTooLong)) → ⊥
judged_other None h = cc
judged_other (Some (playing.Broken r)) h = cc
judged_other (Some playing.TooManyMoves) h = h
judged_other (Some playing.OutOfMemory) h = h

in_order_other : (before : List Saying) (s : Saying) → AnswersInOrder before s (Some (Text StatementTooLong)) → ⊥
in_order_other before version h = cc
in_order_other before (name color text) h = cc
in_order_other before (header key text) h = cc
in_order_other before (even pairs) h = start_other (laid_out (before ++ even pairs ∷ [])) h
in_order_other before (rank number cells) h = start_other (laid_out (before ++ rank number cells ∷ [])) h
in_order_other before (pieces color pairs) h = start_other (laid_out (before ++ pieces color pairs ∷ [])) h
in_order_other before (turn color) h = finish_other (laid_out before) color h
in_order_other before (walked color m) (line, of, played, answer, judged) = judged_other played judged
in_order_other before (time t) h = cc
in_order_other before (ending e) h = cc

after_other : (fault : Option OrderFault) (before : List Saying) (s : Saying) → AnswersAfter fault before s (Some (Text StatementTooLong)) → ⊥
after_other (Some fault) before s h = cc
after_other None before s h = in_order_other before s h

pick : (b : Bool) (x y : TextFault) → (x ≡ StatementTooLong → ⊥) → (y ≡ StatementTooLong → ⊥) → (if b then x else y) ≡ StatementTooLong → ⊥
pick true x y p q h = p h
pick false x y p q h = q h

row_other : (bytes : List ℕ) → fault_of_row bytes ≡ StatementTooLong → ⊥
row_other bytes =
    pick _ BadVersion _ (λ h. cc) (pick _ BadHeader _ (λ h. cc) (pick _ BadPosition _ (λ h. cc) (pick _ BadMove _ (λ h. cc) (pick _ BadTime _ (λ h. cc) (pick _ UnknownEnding Unknown (λ h. cc) (λ h. cc))))))

text_same : (a b : TextFault) → Text a ≡ Text b → a ≡ b
text_same a b h = cc

long_only : (before : List Saying) (u : TextUnit) (why : Why) → why ≡ Text StatementTooLong → Fault before u why → 4096 < length u.bytes
long_only before u why is (inl long) = long.0
long_only before u why is (inr (inl unspelt)) = absurd (row_other (statement_bytes u.bytes) (text_same _ _ (sym unspelt.2 ∙ is)))
long_only before u why is (inr (inr late)) =
    absurd (after_other (order_fault before late.0) before late.0 (subst (λ (w : Why). AnswersAfter (order_fault before late.0) before late.0 (Some w)) is late.2))

long_why : (before : List Saying) (u : TextUnit) (why : Why) → 4096 < length u.bytes → Fault before u why → why ≡ Text StatementTooLong
long_why before u why many (inl long) = long.1
long_why before u why many (inr (inl unspelt)) = let few = unspelt.0 in absurd (omega (arith, few, many))
long_why before u why many (inr (inr late)) = let few = late.1.0 in absurd (omega (arith, few, many))

same_place : {X : Type 0} (a b c d : List X) (u v : X) → a ++ u ∷ c ≡ b ++ v ∷ d → length a ≡ length b → u ≡ v
same_place [] [] c d u v e n = cc
same_place [] (y ∷ b) c d u v e n = absurd (omega (arith, n))
same_place (x ∷ a) [] c d u v e n = absurd (omega (arith, n))
same_place (x ∷ a) (y ∷ b) c d u v e n = let tail : a ++ u ∷ c ≡ b ++ v ∷ d = cc in same_place a b c d u v tail (omega (arith, n))

open_is : (end : ℕ) (u : TextUnit) → is_closed end u ≡ false → (end ≤ u.offset + length u.bytes) × (length u.bytes ≤ 4096)
open_is end u h = (grind (arith, nat_tests), grind (arith, nat_tests))

-- the refused statement is not open
not_open : (source : List ℕ) (number offset : ℕ) (why : Why) → Refused (source ++ replicate 4097 65) number offset why → (at : RefusedAt source number offset why) → is_closed (length source) at.unit ≡ false → ⊥
not_open source number offset why (inl too) at f =
    let shut = open_is (length source) at.unit f in
    let grown = as_grown source 4096 at.front at.following at.unit at.cut in
    let long = grown.2 in
    let lists : at.front ++ long.long ∷ long.rest ≡ too.front ++ too.unit ∷ too.following = long.whole ∙ statements_once _ _ _ _ grown.1 too.cut in
    let one : long.long ≡ too.unit = same_place at.front too.front long.rest too.following long.long too.unit lists (omega (arith, at.number_is, too.number_is)) in
    let place : too.unit.offset ≡ at.unit.offset = sym too.place ∙ at.place in
    let bytes : length at.unit.bytes ≤ length too.unit.bytes = subst (λ (u : TextUnit). length at.unit.bytes ≤ length u.bytes) one long.size in
    let past : length source ≤ too.unit.offset + length too.unit.bytes = omega (arith, shut.0, place, bytes) in
    let all = open_as source 4096 too.front too.following too.unit too.cut past in
    let begins = cut_begins source at.front at.following at.unit at.cut in
    let many : 4096 < length too.unit.bytes = omega (arith, all, begins, place) in
    let short = long_only at.sayings at.unit why (long_why too.sayings too.unit why many too.fault) at.fault in
    omega (arith, short, shut.1)
not_open source number offset why (inr end) at f =
    let begins = cut_begins source at.front at.following at.unit at.cut in
    let place : at.unit.offset ≡ length (source ++ replicate 4097 65) = sym at.place ∙ end.place in
    omega (arith, begins, place, length-append source (replicate 4097 65), length-replicate {A = ℕ} 4097 65)

-- nor is it the end
not_end : (source : List ℕ) (number offset : ℕ) (why : Why) → Refused (source ++ replicate 4097 65) number offset why → RefusedAtEnd source number offset why → ⊥
not_end source number offset why (inl too) end =
    let place : too.unit.offset ≡ length source = sym too.place ∙ end.place in
    let all = open_as source 4096 too.front too.following too.unit too.cut (omega (arith, place)) in
    let many : 4096 < length too.unit.bytes = omega (arith, all, place) in
    let clash : Text StatementTooLong ≡ Order MissingTurn = sym (long_why too.sayings too.unit why many too.fault) ∙ end.why_is in
    cc
not_end source number offset why (inr too) end =
    let place : length source ≡ length (source ++ replicate 4097 65) = sym end.place ∙ too.place in
    omega (arith, place, length-append source (replicate 4097 65), length-replicate {A = ℕ} 4097 65)

pub refused_when_closed : (source : List ℕ) (number offset : ℕ) (why : Why) → ((more : List ℕ) → Refused (source ++ more) number offset why) → ClosedAt source number offset why
refused_when_closed source number offset why always =
    let longer = always (replicate 4097 65) in
    let alone : Refused source number offset why = subst (λ (s : List ℕ). Refused s number offset why) (append-nil source) (always []) in
    elim alone [
      | inl at ↦ elim (cases_Bool (is_closed (length source) at.unit)) [
        | inl t ↦ record {
          front = at.front;
          unit = at.unit;
          following = filter (is_closed (length source)) at.following;
          sayings = at.sayings;
          closed =
              let front = fronts_closed source at.front at.following at.unit at.cut in (
                at.front ++ at.unit ∷ at.following,
                at.cut,
                sym (filter_joined (is_closed (length source)) at.front (at.unit ∷ at.following) ∙ rw (front, t) refl),
              );
          faultless = at.faultless;
          fault = at.fault;
          number_is = at.number_is;
          place = at.place;
        }
        | inr f ↦ absurd (not_open source number offset why longer at f)
      ]
      | inr end ↦ absurd (not_end source number offset why longer end)
    ]
