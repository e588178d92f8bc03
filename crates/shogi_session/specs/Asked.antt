-- For private functions: whether the engine is asked, and with what text.
-- A reader of the public contracts may skip this file.
use Rattle.std.specs.Prelude.{◌≡◌, ℕ, List, []}
use Rattle.bridge_table.specs.declared.config.Config.{Config}
use Rattle.bridge_table.specs.Asking.{MayAsk, AskLines}
use Rattle.bridge_table.specs.State.{Match}
use Rattle.bridge_table.specs.declared.state.EngineState.{EngineState}
use Rattle.bridge_table.specs.declared.state.EngineState.TheVariants.{Thinking}
use Rattle.session_lines.specs.Texts.{text_of}
use Rattle.shogi_session.specs.declared.asking.Question.{Question}
use Rattle.shogi_session.specs.declared.asking.Question.TheVariants.{Asked, NotAsked}

-- it may be asked, and the text is the lines that ask it; or it may not, and there is no text
abbrev pub IsAsked : Config → Match → Question → List ℕ → Type 0
IsAsked c g Asked text =
    MayAsk g × (lines : List (List ℕ)) × AskLines c g lines × (text ≡ text_of lines)
IsAsked c g NotAsked text = (MayAsk g → ⊥) × (text ≡ [])

-- the engine's state after it was asked, or was not
abbrev pub engine_after : Question → EngineState → EngineState
engine_after Asked engine = Thinking
engine_after NotAsked engine = engine
