-- What always holds: of asking for a move, of the fields that an offer does not have, and of lines
-- without their last spaces.
use Rattle.std.proofs.Common.{◌≡◌, ℕ, ◌≢◌, ◌==◌, inl, inr, Bool, true, false, List, [], ◌∷◌, ◌++◌, length, take, codes, Option, Some, None, map, refl, subst}
use Rattle.std.specs.Prelude.{if◌then◌else◌, nat_eq}
use Rattle.std.specs.List.{AllByRecursion, filter, list_any, starts_with}
use Rattle.std.proofs.lemmas.Bool.Decides.{Decides-eqb}
use Rattle.std.proofs.lemmas.Slice.Eq.{slice_eq-Decides}
use Rattle.shogi_board.proofs.Decided.{Decision, decide-as, decide-both, decide-not, decide-color}
use Rattle.shogi_rules.proofs.Decided.{decide-lt, decide-over}
use Rattle.shogi_rules.specs.Positions.{IsGame}
use Rattle.shogi_rules.specs.Positions.{Over}
use Rattle.csa_cutting.specs.Lines.{is_line_end, HasNoLineEnd}
use Rattle.csa_text.specs.Saying.{Saying, version, name, header, even, rank, pieces, turn, walked, time, ending}
use Rattle.record_game.specs.Game.{Game, Ended, move_of}
use Rattle.record_game.specs.Items.{headers, is_body, positions}
use Rattle.record_game.specs.Limits.{IsOneLine}
use Rattle.record_game.specs.Says.{AreEntries, move_items, ending_items, played_items}
use Rattle.bridge_table.specs.declared.config.Config.{Config}
use Rattle.bridge_table.specs.declared.state.EngineState.{EngineState}
use Rattle.bridge_table.specs.declared.state.EngineState.TheVariants.{Thinking}
use Rattle.bridge_table.specs.Asking.{MayAsk, Asks, AskLines, asked, not_asked, go_line}
use Rattle.bridge_table.specs.Sending.{is_position_line}
use Rattle.bridge_table.specs.State.{Match, match_line, position_now}
use Rattle.bridge_table.specs.Summary.{TellsPosition}
use Rattle.session_lines.specs.Texts.{before_unspaced, without_last_spaces}
use Rattle.bridge_table.proofs.Existing.{some_line}
use Rattle.bridge_table.proofs.PositionFits.{FitsIn, not_so}

-- 1. asking
may_ask : (g : Match) → Decision (MayAsk g)
may_ask g =
    let side = decide-color (position_now g).side g.client in
    let over = decide-not (Over (match_line g)) (decide-over (match_line g)) in
    let few = decide-lt (length g.game.moves) 10000 in
    decide-as _ (MayAsk g)
    (λ h. record { to_move = h.0; not_over = h.1.0; few = h.1.1 })
    (λ h. (h.to_move, (h.not_over, h.few)))
    (decide-both _ _ side (decide-both _ _ over few))

asks_by : (c : Config) (g : Match) (old : EngineState) → IsGame g.game.start (map move_of g.game.moves) → Decision (MayAsk g)
    → (lines : List (List ℕ)) × (new : EngineState) × Asks c g old lines new
asks_by c g old game (inl may) =
    let line = some_line g.game.start (map move_of g.game.moves) game in
    (line.0 ∷ go_line c g ∷ [], Thinking, asked may (record { position = line.0; of_game = line.1; whole = refl }) refl)
asks_by c g old game (inr never) = ([], old, not_asked never refl refl)

-- the engine is asked or not
pub some_ask : (c : Config) (g : Match) (old : EngineState) → IsGame g.game.start (map move_of g.game.moves) → (lines : List (List ℕ)) × (new : EngineState) × Asks c g old lines new
some_ask c g old game = asks_by c g old game (may_ask g)

begins : (x : List ℕ) → starts_with nat_eq (codes "position " ++ x) (codes "position ") ≡ true
begins x = (slice_eq-Decides Decides-eqb (codes "position ") (take 9 (codes "position " ++ x)) _ refl).1 refl

-- asking sends a position line
pub asks_by_position : (c : Config) (g : Match) (lines : List (List ℕ)) → AskLines c g lines → list_any is_position_line lines ≡ true
asks_by_position c g lines q =
    let text = q.of_game in
    let e : q.position ≡ codes "position " ++ (text.0 ++ text.1) = text.2 in
    rw (q.whole, e, begins (text.0 ++ text.1)) refl

-- 2. offers
no_headers : (ss : List Saying) → AllByRecursion FitsIn ss → headers ss ≡ []
no_headers [] fit = refl
no_headers (version ∷ ss) fit = absurd (not_so fit.0)
no_headers (name color text ∷ ss) fit = absurd (not_so fit.0)
no_headers (header key text ∷ ss) fit = absurd (not_so fit.0)
no_headers (even pairs ∷ ss) fit = no_headers ss fit.1
no_headers (rank number cells ∷ ss) fit = no_headers ss fit.1
no_headers (pieces color pairs ∷ ss) fit = no_headers ss fit.1
no_headers (turn color ∷ ss) fit = no_headers ss fit.1
no_headers (walked color m ∷ ss) fit = no_headers ss fit.1
no_headers (time t ∷ ss) fit = no_headers ss fit.1
no_headers (ending e ∷ ss) fit = absurd (not_so fit.0)

kept_fits : (v : Bool) (s : Saying) (ss : List Saying) → FitsIn s → AllByRecursion FitsIn ss → AllByRecursion FitsIn (if v then s ∷ ss else ss)
kept_fits true s ss h fit = (h, fit)
kept_fits false s ss h fit = fit

body_fits : (test : Saying → Bool) (ss : List Saying) → AllByRecursion FitsIn ss → AllByRecursion FitsIn (filter test ss)
body_fits test [] fit = tt
body_fits test (s ∷ ss) fit = kept_fits (test s) s (filter test ss) fit.0 (body_fits test ss fit.1)

after_fits : (ss ts : List Saying) → AllByRecursion FitsIn (ss ++ ts) → AllByRecursion FitsIn ts
after_fits [] ts fit = fit
after_fits (s ∷ ss) ts fit = after_fits ss ts fit.1

no_ending : (o : Option Ended) → AllByRecursion FitsIn (ending_items o) → o ≡ None
no_ending None fit = refl
no_ending (Some e) fit = absurd (not_so fit.0)

-- the game of an offer has neither an ending nor a header
pub offer_plain : (text : List ℕ) (g : Game) → TellsPosition text g → (g.ending ≡ None) × (g.headers ≡ [])
offer_plain text g p =
    let body = subst (AllByRecursion FitsIn) p.says.in_order (body_fits is_body p.sayings p.no_others) in
    let played : AllByRecursion FitsIn (played_items g) = (after_fits (positions p.sayings) (turn g.start.side ∷ played_items g) body).1 in
    let none : headers p.sayings ≡ [] = no_headers p.sayings p.no_others in
    (no_ending g.ending (after_fits (move_items g.start.side g.moves) (ending_items g.ending) played), subst (λ hs. AreEntries hs g.headers) none p.says.headers)

pub offer_legal : (text : List ℕ) (g : Game) → TellsPosition text g → IsGame g.start (map move_of g.moves)
offer_legal text g p = p.says.game.line

-- 3. lines
no_end : (b : ℕ) → is_line_end b ≡ false → (b ≢ 13) × (b ≢ 10)
no_end b h = (λ e. let f : is_line_end b ≡ true = rw e refl in cc, λ e. let f : is_line_end b ≡ true = rw e refl in cc)

one_line : (v : Bool) (b : ℕ) → (b ≢ 13) × (b ≢ 10) → IsOneLine (if v then [] else b ∷ [])
one_line true b h = tt
one_line false b h = (h, tt)

kept_one : (b : ℕ) (bs : List ℕ) → (b ≢ 13) × (b ≢ 10) → IsOneLine bs → IsOneLine (before_unspaced b bs)
kept_one b [] h all = one_line (b == 32) b h
kept_one b (x ∷ xs) h all = (h, all)

pub trimmed_line : (line : List ℕ) → HasNoLineEnd line → IsOneLine (without_last_spaces line)
trimmed_line [] h = tt
trimmed_line (b ∷ bs) h = kept_one b (without_last_spaces bs) (no_end b h.0) (trimmed_line bs h.1)
