-- A host as contracts see it.
use Rattle.std.specs.Prelude.{◌≡◌, ℕ, List}
use Rattle.host_and_sample.specs.declared.config.HostConfig.{HostConfig}
use Rattle.host_and_sample.specs.Host.{HostState, HostRow}
use Rattle.session_lines.specs.Texts.{text_of, without_last_spaces}

pub record HostSession : Type 0 where
  pub config : HostConfig
  pub state : HostState

-- a row leads by the line, without the spaces at its end, from one state to the other with these
-- lines
abbrev pub StepRow : HostSession → List ℕ → ℕ → List (List ℕ) → HostSession → Type 0
StepRow old line seconds lines new =
    HostRow old.config old.state (without_last_spaces line) seconds lines new.state

-- the bytes are those of the lines of a row
abbrev pub HostRowText : HostConfig → HostState → List ℕ → ℕ → List ℕ → HostState → Type 0
HostRowText c s line seconds text t =
    (lines : List (List ℕ)) × HostRow c s line seconds lines t × (text ≡ text_of lines)
