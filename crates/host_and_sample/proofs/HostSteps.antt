-- What a step of a host says, from the row whose lines it gives.
use Rattle.std.proofs.Common.{◌≡◌, ℕ, List, [], ap, subst, ◌∙◌}
use Rattle.host_and_sample.specs.declared.config.HostConfig.{HostConfig}
use Rattle.host_and_sample.specs.Host.{HostState, HostRow, HostTableRow, ended, in_table, skipped}
use Rattle.host_and_sample.specs.Hosting.{HostSession, HostRowText}
use Rattle.session_lines.specs.Texts.{text_of, without_last_spaces}
use Rattle.host_and_sample.proofs.HostOnce.{host_row_once}
use Rattle.host_and_sample.proofs.HostRows.{unnamed_ended}

-- the row of the line without its last spaces, from the stage before
pub stepped : (c : HostConfig) (s now : HostState) (old : HostSession) (line trimmed : List ℕ) (seconds : ℕ) (text : List ℕ) (t : HostState)
    → record { config = c; state = s } ≡ old → now ≡ s → trimmed ≡ without_last_spaces line → HostRowText c now trimmed seconds text t
    → HostRowText old.config old.state (without_last_spaces line) seconds text t
stepped c s now old line trimmed seconds text t view same is r =
    subst (λ (x : HostSession). HostRowText x.config x.state (without_last_spaces line) seconds text t) view
    (subst (λ x. HostRowText c x (without_last_spaces line) seconds text t) same
    (subst (λ x. HostRowText c now x seconds text t) is r))

-- the bytes of a row's lines are those of any row's, as there is one
pub row_bytes : (c : HostConfig) (s t : HostState) (line : List ℕ) (seconds : ℕ) (text : List ℕ) (lines : List (List ℕ))
    → HostRowText c s line seconds text t → HostRow c s line seconds lines t → text ≡ text_of lines
row_bytes c s t line seconds text lines r other =
    r.2 ∙ ap text_of (host_row_once c s t t line seconds r.0 lines r.1 other).0

-- once the session is over
over_row : (c : HostConfig) (s t : HostState) (line : List ℕ) (seconds : ℕ) (lines : List (List ℕ))
    → s ≡ ended → HostRow c s line seconds lines t → (lines ≡ []) × (t ≡ ended)
over_row c s t line seconds lines over r =
    elim r [
      | in_table b ↦ absurd (unnamed_ended c line seconds lines t (subst (λ x. HostTableRow c x line seconds lines t) over b))
      | skipped none l e ↦ (l, e ∙ over)
    ]

pub over_bytes : (c : HostConfig) (s t : HostState) (line : List ℕ) (seconds : ℕ) (text : List ℕ)
    → s ≡ ended → HostRowText c s line seconds text t → text ≡ []
over_bytes c s t line seconds text over r = r.2 ∙ ap text_of (over_row c s t line seconds r.0 over r.1).0

pub over_stays : (c : HostConfig) (s t : HostState) (line : List ℕ) (seconds : ℕ) (text : List ℕ)
    → s ≡ ended → HostRowText c s line seconds text t → t ≡ ended
over_stays c s t line seconds text over r = (over_row c s t line seconds r.0 over r.1).1
