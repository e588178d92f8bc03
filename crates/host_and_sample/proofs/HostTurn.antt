-- While a game goes on, the client is to move.
use Rattle.std.proofs.Common.{◌≡◌, ℕ, ◌++◌, List, [], ◌∷◌, refl, sym, ap, ◌∙◌}
use Rattle.shogi_board.specs.declared.color.Color.{Color}
use Rattle.shogi_board.specs.declared.color.Color.TheVariants.{Black, White}
use Rattle.shogi_board.specs.Pieces.{opponent}
use Rattle.shogi_board.specs.Placed.{Placed}
use Rattle.shogi_board.specs.declared.moves.Move.{Move}
use Rattle.shogi_board.specs.After.{after}
use Rattle.shogi_rules.specs.Positions.{Played, position_after, now_of}
use Rattle.host_and_sample.specs.declared.config.HostConfig.{HostConfig}
use Rattle.host_and_sample.specs.Host.{HostState, HostRow, HostTableRow, HostMoves, BeforeLogin, AfterSummary, InPlay, with_move, even_game, waiting, offered, playing, decided, ended, in_table, skipped}
use Rattle.host_and_sample.specs.Host as row
use Rattle.host_and_sample.specs.HostLogs.{HostStep, HostLeads, begins, next}

-- the client is to move in a game that goes on
abbrev Waits : HostConfig → HostState → Type 0
Waits c waiting = Unit {0}
Waits c (offered n) = Unit {0}
Waits c (playing g) = (now_of g).side ≡ c.client
Waits c decided = Unit {0}
Waits c ended = Unit {0}

other_side : (p : Placed) (ms : List Move) (m : Move) → (position_after p (ms ++ m ∷ [])).side ≡ opponent (position_after p ms).side
other_side p [] m = refl
other_side p (n ∷ ms) m = other_side (after p n) ms m

twice : (color : Color) → opponent (opponent color) ≡ color
twice Black = refl
twice White = refl

moved_side : (g : Played) (m : Move) → (now_of (with_move g m)).side ≡ opponent (now_of g).side
moved_side g m = other_side g.start g.moves m

host_moves : (c : HostConfig) (g : Played) (lines : List (List ℕ)) (t : HostState) → (now_of g).side ≡ opponent c.client → HostMoves c g lines t → Waits c t
host_moves c g lines t side r =
    elim r [
      | row.moves m first after l e ↦ rw e (moved_side g m ∙ (ap opponent side ∙ twice c.client))
      | row.moves_last m outcome first after l e ↦ rw e tt
      | row.resigns none l e ↦ rw e tt
    ]

before_login : (c : HostConfig) (line : List ℕ) (lines : List (List ℕ)) (t : HostState) → BeforeLogin c line lines t → Waits c t
before_login c line lines t r =
    elim r [
      | row.logs_in n p h l e ↦ rw e tt
      | row.login_incorrect h k l e ↦ rw e tt
    ]

after_summary : (c : HostConfig) (n line : List ℕ) (lines : List (List ℕ)) (t : HostState) → AfterSummary c n line lines t → Waits c t
after_summary c n line lines t r =
    elim r [
      | row.agrees h k l e ↦ rw e (sym k)
      | row.agrees_host_first more h k m l ↦ host_moves c even_game more t (rw k refl) m
      | row.rejects h l e ↦ rw e tt
    ]

in_play : (c : HostConfig) (g : Played) (line : List ℕ) (seconds : ℕ) (lines : List (List ℕ)) (t : HostState)
    → (now_of g).side ≡ c.client → InPlay c g line seconds lines t → Waits c t
in_play c g line seconds lines t side r =
    elim r [
      | row.client_moves m more s good after host l ↦ host_moves c (with_move g m) more t (moved_side g m ∙ ap opponent side) host
      | row.client_moves_last m outcome s good after l e ↦ rw e tt
      | row.client_errs s none l e ↦ rw e tt
      | row.client_resigns h l e ↦ rw e tt
      | row.client_declares h l e ↦ rw e tt
    ]

table_row : (c : HostConfig) (s : HostState) (line : List ℕ) (seconds : ℕ) (lines : List (List ℕ)) (t : HostState)
    → Waits c s → HostTableRow c s line seconds lines t → Waits c t
table_row c s line seconds lines t h r =
    elim r [
      | row.before_login e b ↦ before_login c line lines t b
      | row.after_summary n e b ↦ after_summary c n line lines t b
      | row.in_play g e b ↦ in_play c g line seconds lines t (rw e at h) b
      | row.logs_out on word l e ↦ rw e tt
    ]

any_row : (c : HostConfig) (s : HostState) (line : List ℕ) (seconds : ℕ) (lines : List (List ℕ)) (t : HostState)
    → Waits c s → HostRow c s line seconds lines t → Waits c t
any_row c s line seconds lines t h r =
    elim r [
      | in_table b ↦ table_row c s line seconds lines t h b
      | skipped none l e ↦ rw e h
    ]

waits_on : (c : HostConfig) (log : List HostStep) (s : HostState) → HostLeads c log s → Waits c s
waits_on c log s begins = tt
waits_on c log s (next before from step to leads time r) =
    any_row c from step.line step.seconds step.to_client to (waits_on c before from leads) r

pub host_waits : (c : HostConfig) (log : List HostStep) (g : Played) → HostLeads c log (playing g) → (now_of g).side ≡ c.client
host_waits c log g leads = waits_on c log (playing g) leads
