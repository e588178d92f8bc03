use Rattle.std.proofs.Common.{◌∙◌, ap, arith, map, take}
use Rattle.std.proofs.lemmas.List.{take_all}
use Rattle.session_commands.specs.Endings.{quoted_byte}
use Rattle.session_commands.proofs.ending.excerpt_of.Goals as goal

pub returns : goal.returns
returns c =
    c.loop-byte.invariant.bytes
    ∙ (ap (map quoted_byte) (take_all c.loop-byte.byte-index c.first_bytes-shown.result.now (omega (arith, c.loop-byte-test.false, c.loop-byte.auto)))
    ∙ (ap (map quoted_byte) c.first_bytes-shown.ensures.value
    ∙ ap (λ l. map quoted_byte (take 256 l)) c.without_last_spaces.ensures.value))
