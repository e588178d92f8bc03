use Rattle.std.proofs.Common.{◌≡◌, ◌++◌, ◌∷◌, codes}
use Rattle.std.specs.Process.{args_left, command_args, command_program}
use Rattle.session_setup.proofs.groups.led.Given as goal

abbrev pub invariant-loop-word : goal.invariant-loop-word
invariant-loop-word l = record {
  program : command_program l.leading ≡ codes "setsid";
  words : command_args l.leading ++ args_left l.word-iterator ≡ codes "--" ∷ command_program l.command ∷ command_args l.command;
}
