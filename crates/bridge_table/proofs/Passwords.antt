-- A row for one password is a row for any other, but for the line of the login.
use Rattle.std.proofs.Common.{◌≡◌, ◌++◌, ◌-◌, ◌∙◌, ℕ, List, [], ◌∷◌, refl, sym, ap, decimal}
use Rattle.shogi_board.specs.declared.color.Color.TheVariants.{Black, White}
use Rattle.bridge_table.specs.declared.config.Config.{Config}
use Rattle.bridge_table.specs.declared.state.EngineState.{EngineState}
use Rattle.bridge_table.specs.Asking.{Asks, asked, not_asked, go_line, used}
use Rattle.bridge_table.specs.Events.{Event, Out, server}
use Rattle.bridge_table.specs.Passwords.{DifferInPassword, DifferInLogin, same, login}
use Rattle.bridge_table.specs.Row.{TableRow, Row, IsUnnamed, in_table, unnamed, login_line}
use Rattle.bridge_table.specs.Row as row
use Rattle.bridge_table.specs.State.{Match, State}
use Rattle.usi_text.specs.EngineTexts as usi_texts

abbrev clocks : ℕ → ℕ → Match → List ℕ
clocks total byoyomi g =
    usi_texts.go_black_time ++ (decimal (total - used Black g.game.start.side g.game.moves)
    ++ (usi_texts.white_time ++ (decimal (total - used White g.game.start.side g.game.moves)
    ++ (usi_texts.byoyomi ++ decimal byoyomi))))

go_same : (c d : Config) (g : Match) → DifferInPassword c d → go_line c g ≡ go_line d g
go_same c d g h = ap (λ t. clocks t c.byoyomi_ms g) (sym h.total) ∙ ap (λ t. clocks d.total_ms t g) (sym h.byoyomi)

asks_same : (c d : Config) (g : Match) (old now : EngineState) (lines : List (List ℕ)) → DifferInPassword c d → Asks c g old lines now → Asks d g old lines now
asks_same c d g old now lines h (asked may ls e) =
    asked may (record { position = ls.position; of_game = ls.of_game; whole = ls.whole ∙ ap (λ l. ls.position ∷ l ∷ []) (go_same c d g h) }) e
asks_same c d g old now lines h (not_asked never ls e) = not_asked never ls e

back : (c d : Config) → DifferInPassword c d → DifferInPassword d c
back c d h = record { name = sym h.name; total = sym h.total; byoyomi = sym h.byoyomi }

abbrev Other : Config → Config → State → Event → Out → State → Type 0
Other c d s e out t = (other : Out) × TableRow d s e other t × DifferInLogin c d out other

row_with : (c d : Config) (s : State) (e : Event) (out : Out) (t : State) → DifferInPassword c d → TableRow c s e out t → Other c d s e out t
row_with c d s e out t h (row.begins a b o q) = (out, row.begins a b o q, same refl)
row_with c d s e out t h (row.greeted line a b f o q) = (out, row.greeted line a b f o q, same refl)
row_with c d s e out t h (row.readied line a b f o q) = (server (login_line d), row.readied line a b f refl q, login o refl)
row_with c d s e out t h (row.login_taken line a b f o q) = (out, row.login_taken line a b f o q, same refl)
row_with c d s e out t h (row.login_refused a b o q) = (out, row.login_refused a b o q, same refl)
row_with c d s e out t h (row.summary_begins a b o q) = (out, row.summary_begins a b o q, same refl)
row_with c d s e out t h (row.summary_line lines line k new a b f i j o q) = (out, row.summary_line lines line k new a b f i j o q, same refl)
row_with c d s e out t h (row.summary_ends k offer a b f o q) = (out, row.summary_ends k offer a b f o q, same refl)
row_with c d s e out t h (row.summary_fails k a b f o q) = (out, row.summary_fails k a b f o q, same refl)
row_with c d s e out t h (row.started offer line lines now a b f i o q) =
    (out, row.started offer line lines now a b f (asks_same c d _ _ now lines h i) o q, same refl)
row_with c d s e out t h (row.rejected offer line a b f o q) = (out, row.rejected offer line a b f o q, same refl)
row_with c d s e out t h (row.engine_moves g line word m a b f i j o q) = (out, row.engine_moves g line word m a b f i j o q, same refl)
row_with c d s e out t h (row.engine_resigns g line a b f i o q) = (out, row.engine_resigns g line a b f i o q, same refl)
row_with c d s e out t h (row.engine_wins g line a b f i o q) = (out, row.engine_wins g line a b f i o q, same refl)
row_with c d s e out t h (row.engine_slips g line word a b f i j o q) = (out, row.engine_slips g line word a b f i j o q, same refl)
row_with c d s e out t h (row.engine_late line word a b f i o q) = (out, row.engine_late line word a b f i o q, same refl)
row_with c d s e out t h (row.move_refused p line cause a b f i o q) = (out, row.move_refused p line cause a b f i o q, same refl)
row_with c d s e out t h (row.move_unsent p line color m a b f i j o q) = (out, row.move_unsent p line color m a b f i j o q, same refl)
row_with c d s e out t h (row.move_confirmed p line color m lines now a b f i j k o q) =
    (out, row.move_confirmed p line color m lines now a b f i j (asks_same c d _ _ now lines h k) o q, same refl)
row_with c d s e out t h (row.ending_stated p line kept a b f i o q) = (out, row.ending_stated p line kept a b f i o q, same refl)
row_with c d s e out t h (row.reason_stated g f line a b i j o q) = (out, row.reason_stated g f line a b i j o q, same refl)
row_with c d s e out t h (row.result_stated g f line outcome a b i o q) = (out, row.result_stated g f line outcome a b i o q, same refl)
row_with c d s e out t h (row.closes g f outcome a b o q) = (out, row.closes g f outcome a b o q, same refl)
row_with c d s e out t h (row.engine_gone a b o q) = (out, row.engine_gone a b o q, same refl)
row_with c d s e out t h (row.server_gone a b f o q) = (out, row.server_gone a b f o q, same refl)
row_with c d s e out t h (row.line_too_long a o q) = (out, row.line_too_long a o q, same refl)

none_with : (c d : Config) (s : State) (e : Event) → DifferInPassword c d → IsUnnamed c s e → IsUnnamed d s e
none_with c d s e h none = λ out t known. let r = row_with d c s e out t (back c d h) known.1 in none r.0 t (known.0, r.1)

pub login_alone : (c d : Config) (s t : State) (e : Event) (out : Out) → DifferInPassword c d → Row c s e out t
    → (other : Out) × Row d s e other t × DifferInLogin c d out other
login_alone c d s t e out h (in_table known) = let r = row_with c d s e out t h known.1 in (r.0, in_table (known.0, r.1), r.2)
login_alone c d s t e out h (unnamed none o q) = (out, unnamed (none_with c d s e h none) o q, same refl)
