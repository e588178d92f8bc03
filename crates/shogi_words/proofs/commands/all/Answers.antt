use Rattle.shogi_words.proofs.CommandNames.{adds_last_command, adds_command}
use Rattle.shogi_words.proofs.commands.all.Goals as goal

pub returns : goal.returns
returns c = record {
  names =
      let names-1 = adds_command _ _ _ _ _ c.in_ok-subcommand.ensures c.in_ok-check.ensures.name c.program.ensures.none in
      let names-2 = adds_command _ _ _ _ _ c.in_ok-subcommand-2.ensures c.in_ok-digest.ensures.name names-1 in
      let names-3 = adds_command _ _ _ _ _ c.in_ok-subcommand-3.ensures c.in_ok-same.ensures.name names-2 in
      let names-4 = adds_command _ _ _ _ _ c.in_ok-subcommand-4.ensures c.in_ok-normal.ensures.name names-3 in
      let names-5 = adds_command _ _ _ _ _ c.in_ok-subcommand-5.ensures c.in_ok-usi.ensures.name names-4 in
      let names-6 = adds_command _ _ _ _ _ c.in_ok-subcommand-6.ensures c.in_ok-csa.ensures.name names-5 in
      let names-7 = adds_command _ _ _ _ _ c.in_ok-subcommand-7.ensures c.engine.ensures.name names-6 in
      let names-8 = adds_command _ _ _ _ _ c.in_ok-subcommand-8.ensures c.in_ok-command.ensures.name names-7 in
      adds_last_command c.subcommand-9.result _ _ _ _ c.subcommand-9.ensures c.in_ok-command-2.ensures.name names-8;
}
