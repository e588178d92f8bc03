-- What becomes of the record of a game.
use Rattle.std.proofs.Common.{◌≡◌, ℕ, Bool, List, length, Option, None, Some, Result, Err, MatchOption, refl, ap, sym, subst, ◌∙◌}
use Rattle.std.specs.Bool.{⊤}
use Rattle.std.specs.Prelude.{unwrap_or}
use Rattle.record_game.specs.Canon.{canon}
use Rattle.record_game.specs.Game.{Game}
use Rattle.session_setup.specs.declared.fault.MatchFault.{MatchFault}
use Rattle.session_setup.specs.Faults.{IsFileFault}
use Rattle.shogi_session.specs.GameSoFar.{HasMoves, game_of}
use Rattle.shogi_session.specs.Promises.{IsGameText, game_text, no_game}
use Rattle.shogi_session.specs.State.{State}
use Rattle.session_commands.specs.Kept.{Drops, IsKept, KeepsRecord, RefusesText, TakesText, no_game as keeps_no_game, not_taken, report_of, taken}

same_some : (a b : List ℕ) → Some a ≡ Some b → a ≡ b
same_some a b same = cc

same_game : (a b : Game) → Some a ≡ Some b → a ≡ b
same_game a b same = cc

none_has_no_game : (s : State) (found : Option (List ℕ)) → found ≡ None → IsGameText s found → game_of s.client ≡ None
none_has_no_game s found is (no_game none) = none
none_has_no_game s found is (game_text g some) = absurd cc

-- there is no game
pub none_kept : {P D : Type 0} (took : TakesText P D) (refused : RefusesText P D) (dropped : Drops P D) (replaced : D → Bool) (draft : D) (s : State) (played : Result ⊤ MatchFault) (p q : P) (answer : Result ℕ MatchFault)
    → IsGameText s None → dropped p draft q → report_of played 0 ≡ answer → KeepsRecord took refused dropped replaced draft s.client played p q answer
none_kept took refused dropped replaced draft s played p q answer none undone is =
    subst (λ a. KeepsRecord took refused dropped replaced draft s.client played p q a) is (keeps_no_game (none_has_no_game s None refl none) undone)

-- the text is that of the game
pub record HasText (s : State) (text : List ℕ) : Type 0 where
  pub game : Game
  pub is : game_of s.client ≡ Some game
  pub text_is : canon game ≡ text

has_text_of : (s : State) (found : Option (List ℕ)) (text : List ℕ) → found ≡ Some text → IsGameText s found → HasText s text
has_text_of s found text is (no_game none) = absurd cc
has_text_of s found text is (game_text g some) = record { game = g; is = some; text_is = same_some (canon g) text is }

pub has_text : (s : State) (text : List ℕ) → IsGameText s (Some text) → HasText s text
has_text s text is = has_text_of s (Some text) text refl is

pub text_refused : {P D : Type 0} (took : TakesText P D) (refused : RefusesText P D) (dropped : Drops P D) (replaced : D → Bool) (draft : D) (s : State) (text : List ℕ) (played : Result ⊤ MatchFault) (p q : P) (fault : MatchFault)
    → IsGameText s (Some text) → IsKept s.client (replaced draft) → refused p draft text fault q → IsFileFault fault
    → KeepsRecord took refused dropped replaced draft s.client played p q (Err fault)
text_refused took refused dropped replaced draft s text played p q fault is kept gone why =
    let has = has_text s text is in
    not_taken has.game fault has.is kept (subst (λ t. refused p draft t fault q) (sym has.text_is) gone) why

-- the game has as many moves as the bridge says
counted : (s : State) (g : Game) (moves : Option ℕ) (n : ℕ) → game_of s.client ≡ Some g → MatchOption moves (game_of s.client ≡ None) (HasMoves s.client)
    → n ≡ unwrap_or moves 0 → n ≡ length g.moves
counted s g None n is none many = absurd cc
counted s g (Some m) n is (h, has, count) many = many ∙ count ∙ ap (λ (x : Game). length x.moves) (same_game h g (sym has ∙ is))

pub text_taken : {P D : Type 0} (took : TakesText P D) (refused : RefusesText P D) (dropped : Drops P D) (replaced : D → Bool) (draft : D) (s : State) (text : List ℕ) (played : Result ⊤ MatchFault) (p q : P) (answer : Result ℕ MatchFault) (moves : Option ℕ) (n : ℕ)
    → IsGameText s (Some text) → IsKept s.client (replaced draft) → took p draft text q → MatchOption moves (game_of s.client ≡ None) (HasMoves s.client)
    → n ≡ unwrap_or moves 0 → answer ≡ report_of played n
    → KeepsRecord took refused dropped replaced draft s.client played p q answer
text_taken took refused dropped replaced draft s text played p q answer moves n is kept gone counts many is_answer =
    let has = has_text s text is in
    let whole = counted s has.game moves n has.is counts many in
    subst (λ a. KeepsRecord took refused dropped replaced draft s.client played p q a) (sym (is_answer ∙ ap (report_of played) whole))
    (taken has.game has.is kept (subst (λ t. took p draft t q) (sym has.text_is) gone))
