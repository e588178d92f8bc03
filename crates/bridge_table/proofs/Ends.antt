-- When a side ends, no line is sent.
use Rattle.std.proofs.Common.{◌≡◌, ◌⊎◌, inl, inr, Bool, true, false, refl, ap, ◌∙◌}
use Rattle.bridge_table.specs.declared.config.Config.{Config}
use Rattle.bridge_table.specs.Events.{Event, begin, engine_line, server_line, engine_end, server_end, engine_long, server_long, Out, no_lines}
use Rattle.bridge_table.specs.Row.{TableRow, Row, in_table, unnamed}
use Rattle.bridge_table.specs.Row as row
use Rattle.bridge_table.specs.State.{State}

abbrev is_end : Event → Bool
is_end begin = false
is_end (engine_line line) = false
is_end (server_line line) = false
is_end engine_end = true
is_end server_end = true
is_end engine_long = false
is_end server_long = false

other : (e u : Event) (out : Out) → is_end e ≡ true → e ≡ u → is_end u ≡ false → out ≡ no_lines
other e u out end same none = let no : is_end e ≡ false = ap is_end same ∙ none in absurd cc

at_ends : (c : Config) (s : State) (e : Event) (out : Out) (t : State) → is_end e ≡ true → TableRow c s e out t → out ≡ no_lines
at_ends c s e out t end r =
    elim r [
      | row.begins a b o z ↦ other e _ out end b refl
      | row.greeted l a b d o z ↦ other e _ out end b refl
      | row.readied l a b d o z ↦ other e _ out end b refl
      | row.login_taken l a b d o z ↦ o
      | row.login_refused a b o z ↦ o
      | row.summary_begins a b o z ↦ o
      | row.summary_line ls l h new a b d f g o z ↦ o
      | row.summary_ends h offer a b d o z ↦ other e _ out end b refl
      | row.summary_fails h a b d o z ↦ o
      | row.started offer l asked now a b d f o z ↦ other e _ out end b refl
      | row.rejected offer l a b d o z ↦ o
      | row.engine_moves g l word m a b d f h o z ↦ other e _ out end d refl
      | row.engine_resigns g l a b d f o z ↦ other e _ out end d refl
      | row.engine_wins g l a b d f o z ↦ other e _ out end d refl
      | row.engine_slips g l word a b d f h o z ↦ other e _ out end d refl
      | row.engine_late l word a b d f o z ↦ o
      | row.move_refused p l cause a b d f o z ↦ o
      | row.move_unsent p l color m a b d f h o z ↦ o
      | row.move_confirmed p l color m asked now a b d f h k o z ↦ other e _ out end b refl
      | row.ending_stated p l kept a b d f o z ↦ o
      | row.reason_stated g finish l a b d f o z ↦ o
      | row.result_stated g finish l result a b d o z ↦ other e _ out end b refl
      | row.closes g finish result a b o z ↦ o
      | row.engine_gone a b o z ↦ o
      | row.server_gone a b d o z ↦ o
      | row.line_too_long a o z ↦ o
    ]

ends_stated : (e : Event) → (e ≡ engine_end) ⊎ (e ≡ server_end) → is_end e ≡ true
ends_stated e (inl h) = ap is_end h
ends_stated e (inr h) = ap is_end h

pub end_lines : (c : Config) (s t : State) (e : Event) (out : Out) → Row c s e out t → (e ≡ engine_end) ⊎ (e ≡ server_end) → out ≡ no_lines
end_lines c s t e out r h =
    elim r [
      | in_table b ↦ at_ends c s e out t (ends_stated e h) b.1
      | unnamed none o z ↦ o
    ]
