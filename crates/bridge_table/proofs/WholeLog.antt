-- A whole log, from New to the engine's first move.
use Rattle.std.proofs.Common.{◌≡◌, ◌≢◌, ℕ, ◌<◌, ◌+◌, ◌≤◌, inl, inr, true, List, [], ◌∷◌, ◌++◌, Option, Some, None, codes, refl, sym, ap, subst, ◌∙◌, lit≤, get_or}
use Rattle.std.proofs.lemmas.Bool.{cases_eq, ne_eqb}
use Rattle.std.proofs.lemmas.List.{append-nil, get_or-set_other, get_or-replicate}
use Rattle.std.specs.Prelude.{map, slice_set}
use Rattle.std.specs.List.{list_any}
use Rattle.std.specs.Option.{option_to_list}
use Rattle.shogi_board.specs.declared.color.Color.{Color}
use Rattle.shogi_board.specs.declared.color.Color.TheVariants.{Black, White}
use Rattle.shogi_board.specs.declared.kind.Kind.{Kind}
use Rattle.shogi_board.specs.declared.kind.Kind.TheVariants.{Pawn, Lance, Knight, Silver, Gold, Bishop, Rook, King, ProPawn, ProLance, ProKnight, ProSilver, Horse, Dragon}
use Rattle.shogi_board.specs.declared.square.Square.{Square}
use Rattle.shogi_board.specs.Cells.{no_cells, piece}
use Rattle.shogi_board.specs.Placing.{Placing, on}
use Rattle.shogi_board.specs.Setup.{layout_of}
use Rattle.shogi_board.specs.Sound.{IsSound}
use Rattle.shogi_board.specs.Totals.{total, limit, kings_of}
use Rattle.shogi_rules.proofs.Alone.{not-over-alone}
use Rattle.shogi_rules.specs.Positions.{begun}
use Rattle.csa_text.specs.Saying.{pieces, turn}
use Rattle.csa_text.specs.declared.pair.Pair.TheVariants.{On}
use Rattle.record_game.specs.Limits.{IsGame}
use Rattle.record_game.specs.Union.{GiveStart, on_square}
use Rattle.usi_text.proofs.OneMove.{same_square}
use Rattle.usi_text.specs.LineText.{LineText}
use Rattle.session_lines.specs.LineTexts as texts
use Rattle.usi_text.specs.EngineTexts as usi_texts
use Rattle.bridge_table.specs.declared.config.Config.{Config}
use Rattle.bridge_table.specs.declared.event.Status.TheVariants.{Going}
use Rattle.bridge_table.specs.declared.state.EngineState.{EngineState}
use Rattle.bridge_table.specs.declared.state.EngineState.TheVariants.{Greeting, Readying, Thinking}
use Rattle.bridge_table.specs.Asking.{MayAsk, asked, go_line}
use Rattle.bridge_table.specs.Events.{Event, Out, begin, engine_line, server_line, engine, server, no_lines}
use Rattle.bridge_table.specs.Examples.{pawn_start, pawn_game, pawn_match, pawn_step, pawn_events, ready, thinking}
use Rattle.bridge_table.specs.Logs.{Step, Leads, new, next, event_in, answers}
use Rattle.bridge_table.specs.Row.{Row, in_table, login_line}
use Rattle.bridge_table.specs.Row as row
use Rattle.bridge_table.specs.declared.state.Answer.TheVariants.{Move as move}
use Rattle.bridge_table.specs.State.{Client, State, first_state, idle, logging_in, before_summary, summary, agreeing, playing, sent}
use Rattle.bridge_table.specs.Summary.{SummaryContent, PositionBlocks, CountsAs, Block, IsBlock, Offer, TellsOffer, TellsPosition, line, block, none, one, no_content, end_line}
use Rattle.session_lines.specs.Texts.{text_of}
use Rattle.bridge_table.specs.Sending.{is_position_line}
use Rattle.bridge_table.proofs.AlwaysAsks.{asks_by_position}
use Rattle.bridge_table.proofs.Existing.{some_line}
use Rattle.bridge_table.proofs.Instances.{from, to, opening, start_safe, answers as answers_row}

-- 1. the position block spells the game
abbrev placed_pawn : List Placing
placed_pawn = on 60 (record { color = Black; kind = Pawn }) ∷ []

empty_at : (n : ℕ) → n < 81 → get_or no_cells n None ≡ None
empty_at n h = get_or-replicate 81 n None None h

others_empty : (n : ℕ) → n < 81 → n ≢ 60 → get_or (slice_set no_cells 60 (piece Black Pawn)) n None ≡ None
others_empty n h other = get_or-set_other no_cells 60 n (piece Black Pawn) None other ∙ empty_at n h

cell_of : (n : ℕ) → n < 81 → on_square no_cells placed_pawn n ≡ option_to_list (get_or (slice_set no_cells 60 (piece Black Pawn)) n None)
cell_of n h = elim (cases_eq n 60) [
  | inl e ↦ rw e refl
  | inr other ↦ rw (ne_eqb 60 n (λ e. other (sym e)), empty_at n h, others_empty n h other) refl
]

few : (kind : Kind) → total pawn_start.material kind ≤ limit kind
few Pawn = lit≤ tt
few Lance = lit≤ tt
few Knight = lit≤ tt
few Silver = lit≤ tt
few Gold = lit≤ tt
few Bishop = lit≤ tt
few Rook = lit≤ tt
few King = lit≤ tt
few ProPawn = lit≤ tt
few ProLance = lit≤ tt
few ProKnight = lit≤ tt
few ProSilver = lit≤ tt
few Horse = lit≤ tt
few Dragon = lit≤ tt

few_kings : (color : Color) → kings_of pawn_start.material.board color ≤ 1
few_kings Black = lit≤ tt
few_kings White = lit≤ tt

sound : IsSound pawn_start
sound = record {
  within = record { squares = refl; black_kinds = refl; white_kinds = refl; totals = few; kings = few_kings };
  safe = start_safe White;
}

game : IsGame pawn_game
game = record {
  black = tt;
  white = tt;
  entries = tt;
  rising = tt;
  few_headers = lit≤ tt;
  sound = sound;
  line = begun;
  few_moves = lit≤ tt;
  times = tt;
  last_time = tt;
}

given : GiveStart (pieces Black (On from Pawn ∷ []) ∷ []) pawn_start
given = record {
  layout = layout_of pawn_start;
  union = record {
    squares = refl;
    cells = cell_of;
    taken = λ n. tt;
    held = (tt, tt);
    black = refl;
    white = refl;
    no_rest = refl;
    rest_last = tt;
  };
  start_is = refl;
}

abbrev block_text : List ℕ
block_text = codes "P+77FU" ++ 10 ∷ codes "+" ++ 10 ∷ []

tells : TellsPosition block_text pawn_game
tells = record {
  statements = record { offset = 0; bytes = codes "P+77FU" } ∷ record { offset = 7; bytes = codes "+" } ∷ [];
  sayings = pieces Black (On from Pawn ∷ []) ∷ turn Black ∷ [];
  cut = record {
    units = record { offset = 0; bytes = codes "P+77FU" } ∷ record { offset = 7; bytes = codes "+" } ∷ [];
    cut = (
      10 ∷ 43 ∷ 10 ∷ [],
      record { gap = []; whole = refl; separators = tt; place = refl; unit = (refl, (refl, (refl, (refl, (refl, (refl, tt))))), refl) },
      (10 ∷ [], record { gap = 10 ∷ []; whole = refl; separators = (refl, tt); place = refl; unit = (refl, tt, refl) }, (refl, tt)),
    );
    kept = refl;
  };
  spelt = ((lit≤ tt, refl), ((lit≤ tt, refl), tt));
  no_others = (refl, (refl, tt));
  says = record {
    version_first = refl;
    black = refl;
    white = refl;
    headers = refl;
    even_first = refl;
    even_or_ranks = inl refl;
    ranks_once = λ n. tt;
    start = given;
    in_order = refl;
    game = game;
  };
}

-- 2. what counts of the summary
abbrev turn_line : List ℕ
turn_line = codes "Your_Turn:+"

abbrev from_server : List ℕ → PositionBlocks → Option (List ℕ) → SummaryContent
from_server side positions title = record { black = []; white = []; turn = side; positions = positions; begun = title }

-- after `Your_Turn:`, with these lines of the position block
abbrev within : List (List ℕ) → SummaryContent
within lines = from_server (codes "+") (one (text_of lines)) (Some texts.position_title)

abbrev over : SummaryContent
over = from_server (codes "+") (one block_text) None

abbrev position_block : List (List ℕ) → Block
position_block lines = record { title = texts.position_title; lines = lines }

nothing : CountsAs [] no_content
nothing = record { parts = []; begun = None; whole = refl; fit = tt; begun_fits = tt; black = refl; white = refl; turn = refl; positions = refl; title = refl }

side_stated : CountsAs (turn_line ∷ []) (from_server (codes "+") none None)
side_stated = record {
  parts = line turn_line ∷ [];
  begun = None;
  whole = refl;
  fit = (refl, tt);
  begun_fits = tt;
  black = refl;
  white = refl;
  turn = refl;
  positions = refl;
  title = refl;
}

in_block : (lines : List (List ℕ)) → IsBlock (position_block lines) → CountsAs (turn_line ∷ texts.begin_position ∷ lines) (within lines)
in_block lines fits = record {
  parts = line turn_line ∷ [];
  begun = Some (position_block lines);
  whole = ap (λ ls. turn_line ∷ texts.begin_position ∷ ls) (sym (append-nil lines));
  fit = (refl, tt);
  begun_fits = fits;
  black = refl;
  white = refl;
  turn = refl;
  positions = refl;
  title = refl;
}

abbrev pawn_line : List ℕ
pawn_line = codes "P+77FU"

abbrev side_line : List ℕ
side_line = codes "+"

no_end : pawn_line ≢ end_line texts.position_title
no_end e = cc

no_end_of_side : side_line ≢ end_line texts.position_title
no_end_of_side e = cc

block_ended : CountsAs (turn_line ∷ texts.begin_position ∷ pawn_line ∷ side_line ∷ texts.end_position ∷ []) over
block_ended = record {
  parts = line turn_line ∷ block (position_block (pawn_line ∷ side_line ∷ [])) ∷ [];
  begun = None;
  whole = refl;
  fit = (refl, ((no_end, (no_end_of_side, tt)), tt));
  begun_fits = tt;
  black = refl;
  white = refl;
  turn = refl;
  positions = refl;
  title = refl;
}

abbrev offered : Offer
offered = record { client = Black; game = pawn_game }

offer_stated : TellsOffer over offered
offer_stated = record {
  no_block = refl;
  black_fits = lit≤ tt;
  white_fits = lit≤ tt;
  black = refl;
  white = refl;
  client = refl;
  text = block_text;
  one_position = refl;
  position = tells;
}

-- 3. the steps
abbrev state : EngineState → Client → State
state now client = record { engine = now; client = client; status = Going }

hears : (c : Config) (lines : List (List ℕ)) (next_line : List ℕ) (h g : SummaryContent) → next_line ≢ texts.end_summary → CountsAs lines h → CountsAs (lines ++ next_line ∷ []) g
    → Row c (ready (summary h)) (server_line next_line) no_lines (ready (summary g))
hears c lines next_line h g goes_on before after = in_table (refl, row.summary_line lines next_line h g refl refl goes_on before after refl refl)

may_ask : MayAsk pawn_match
may_ask = record { to_move = refl; not_over = not-over-alone pawn_start; few = lit≤ tt }

abbrev asking : Config → List ℕ → List (List ℕ)
asking c position = position ∷ go_line c pawn_match ∷ []

starts : (c : Config) (position : List ℕ) → LineText pawn_start [] position
    → Row c (ready (agreeing offered)) (server_line (codes "START:x")) (engine (usi_texts.new_game ∷ asking c position)) (thinking (playing pawn_match))
starts c position stated = in_table (
  refl,
  row.started offered (codes "START:x") (asking c position) Thinking refl refl refl
      (asked may_ask (record { position = position; of_game = stated; whole = refl }) refl) refl refl,
)

-- an event with this answer
abbrev stated : Event → Out → Step
stated e out = record { event = e; out = out; status = Going }

abbrev silent_on : List ℕ → Step
silent_on text = stated (server_line text) no_lines

abbrev logged_in : Config → List Step
logged_in c =
    stated begin (engine (usi_texts.usi ∷ []))
    ∷ stated (engine_line usi_texts.usi_ok) (engine (usi_texts.is_ready ∷ []))
    ∷ stated (engine_line usi_texts.ready_ok) (server (login_line c))
    ∷ silent_on (codes "LOGIN:x OK")
    ∷ []

greets : (c : Config) → Leads c (logged_in c) (ready before_summary)
greets c =
    let first = next [] first_state begin (engine (usi_texts.usi ∷ [])) (state Greeting idle) new (in_table (refl, row.begins refl refl refl refl)) in
    let second = next _ _ (engine_line usi_texts.usi_ok) (engine (usi_texts.is_ready ∷ [])) (state Readying idle) first
    (in_table (refl, row.greeted usi_texts.usi_ok refl refl refl refl refl)) in
    let third = next _ _ (engine_line usi_texts.ready_ok) (server (login_line c)) (ready logging_in) second
    (in_table (refl, row.readied usi_texts.ready_ok refl refl refl refl refl)) in
    next _ _ (server_line (codes "LOGIN:x OK")) no_lines (ready before_summary) third
    (in_table (refl, row.login_taken (codes "LOGIN:x OK") refl refl refl refl refl))

abbrev summary_steps : List Step
summary_steps =
    silent_on texts.begin_summary
    ∷ silent_on turn_line
    ∷ silent_on texts.begin_position
    ∷ silent_on pawn_line
    ∷ silent_on side_line
    ∷ silent_on texts.end_position
    ∷ stated (server_line texts.end_summary) (server texts.agree)
    ∷ []

agrees : (c : Config) → Leads c (logged_in c ++ summary_steps) (ready (agreeing offered))
agrees c =
    let first = next _ _ (server_line texts.begin_summary) no_lines (ready (summary no_content)) (greets c)
    (in_table (refl, row.summary_begins refl refl refl refl)) in
    let second = next _ _ (server_line turn_line) no_lines _ first
    (hears c [] turn_line no_content (from_server (codes "+") none None) (λ e. cc) nothing side_stated) in
    let third = next _ _ (server_line texts.begin_position) no_lines _ second
    (hears c (turn_line ∷ []) texts.begin_position _ (within []) (λ e. cc) side_stated (in_block [] tt)) in
    let fourth = next _ _ (server_line pawn_line) no_lines _ third
    (hears c (turn_line ∷ texts.begin_position ∷ []) pawn_line _ (within (pawn_line ∷ [])) (λ e. cc) (in_block [] tt) (in_block (pawn_line ∷ []) (no_end, tt))) in
    let fifth = next _ _ (server_line side_line) no_lines _ fourth
    (hears c (turn_line ∷ texts.begin_position ∷ pawn_line ∷ []) side_line _ (within (pawn_line ∷ side_line ∷ [])) (λ e. cc) (in_block (pawn_line ∷ []) (no_end, tt))
    (in_block (pawn_line ∷ side_line ∷ []) (no_end, (no_end_of_side, tt)))) in
    let sixth = next _ _ (server_line texts.end_position) no_lines _ fifth
    (hears c (turn_line ∷ texts.begin_position ∷ pawn_line ∷ side_line ∷ []) texts.end_position _ over (λ e. cc)
    (in_block (pawn_line ∷ side_line ∷ []) (no_end, (no_end_of_side, tt))) block_ended) in
    next _ _ (server_line texts.end_summary) (server texts.agree) (ready (agreeing offered)) sixth
    (in_table (refl, row.summary_ends over offered refl refl offer_stated refl refl))

abbrev game_steps : Config → List ℕ → List Step
game_steps c position =
    stated (server_line (codes "START:x")) (engine (usi_texts.new_game ∷ asking c position))
    ∷ stated (engine_line (codes "bestmove 7g7f")) (server (codes "+7776FU"))
    ∷ []

moves_once : (c : Config) (position : List ℕ) → LineText pawn_start [] position
    → Leads c (logged_in c ++ summary_steps ++ game_steps c position) (ready (sent pawn_match (move opening.move)))
moves_once c position text =
    let first = next _ _ (server_line (codes "START:x")) (engine (usi_texts.new_game ∷ asking c position)) (thinking (playing pawn_match)) (agrees c) (starts c position text) in
    next _ _ (engine_line (codes "bestmove 7g7f")) (server (codes "+7776FU")) (ready (sent pawn_match (move opening.move))) first (answers_row c)

abbrev HasLog : Config → Square → Square → Type 0
HasLog c a b =
    (log : List Step) × (map event_in log ≡ pawn_events) × (answers log ≡ codes "+7776FU" ∷ [])
    × Leads c log (ready (sent pawn_match (move (pawn_step a b).move)))

has_log : (c : Config) → HasLog c from to
has_log c =
    let position = some_line pawn_start [] begun in
    (logged_in c ++ summary_steps ++ game_steps c position.0, refl, refl, moves_once c position.0 position.1)

pub log_for : (c : Config) (a b : Square) → a.file ≡ 7 → a.rank ≡ 7 → b.file ≡ 7 → b.rank ≡ 6 → HasLog c a b
log_for c a b p q r s =
    let first : a ≡ from = same_square a from (ap (λ n. 48 + n) p) (ap (λ n. 96 + n) q) in
    let last : b ≡ to = same_square b to (ap (λ n. 48 + n) r) (ap (λ n. 96 + n) s) in
    subst (λ x. HasLog c x b) (sym first) (subst (λ x. HasLog c from x) (sym last) (has_log c))

-- 4. a step that asks the engine by a position line
abbrev HasAsked : Config → Type 0
HasAsked c =
    (log : List Step) × (s : State) × (t : State) × (e : Event) × (out : Out)
    × Leads c log s × Row c s e out t × (list_any is_position_line out.to_engine ≡ true)

pub asked_for : (c : Config) → HasAsked c
asked_for c =
    let position = some_line pawn_start [] begun in (
      logged_in c ++ summary_steps,
      ready (agreeing offered),
      thinking (playing pawn_match),
      server_line (codes "START:x"),
      engine (usi_texts.new_game ∷ asking c position.0),
      agrees c,
      starts c position.0 position.1,
      asks_by_position c pawn_match (asking c position.0) (record { position = position.0; of_game = position.1; whole = refl }),
    )
