use Rattle.std.proofs.Common.{◌≡◌, take}
use Rattle.std.specs.Process.{command_args, command_program}
use Rattle.session_commands.specs.Launching.{engine_words}
use Rattle.session_commands.proofs.children.engine_command.Given as goal

abbrev pub invariant-loop-word : goal.invariant-loop-word
invariant-loop-word l = record {
  program : command_program l.command ≡ l.program;
  words : command_args l.command ≡ engine_words (take l.word-index l.words);
}
