use Rattle.std.proofs.Common.{refl}
use Rattle.session_commands.proofs.log.entry_text.Goals as goal

pub returns : goal.returns
returns c = record {
  time = c.args.time;
  is_time = refl;
  shown = c.in_ok-shown.shown.items;
  is_shown = c.in_ok-shown.ensures;
  text_is = rw (← c.in_ok-front.ensures, ← c.as_str.ensures.value, ← c.as_slice.ensures.value) c.in_ok-text.ensures;
}
