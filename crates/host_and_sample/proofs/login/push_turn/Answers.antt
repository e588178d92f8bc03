use Rattle.std.proofs.Common.{codes, decimal, ◌∷◌, ◌++◌, []}
use Rattle.csa_text.specs.Codes.{sign}
use Rattle.host_and_sample.proofs.HostLines.{on_ok, three_lines}
use Rattle.host_and_sample.proofs.login.push_turn.Goals as goal

pub returns : goal.returns
returns c =
    on_ok c.push_joined-2.result _ _ _ c.push_joined-2.ensures.added
    (rw (c.in_ok-push.ensures.added, c.in_ok-push_joined.ensures.added, c.sign_of.ensures.sign, c.as_bytes.ensures.value, c.format.ensures.text)
    (three_lines c.args.lines.now (codes "Your_Turn:" ++ sign c.args.config.now.client ∷ []) (codes "To_Move:+")
    (codes "Max_Moves:" ++ decimal c.args.config.now.max_moves)))
