use Rattle.session_setup.specs.Disk.{filled, not_filled}
use Rattle.session_setup.proofs.out_file.fill.Goals as goal

pub returns-in-Ok : goal.returns-in-Ok
returns-in-Ok g c = rw (← c.new.view_is) (filled tt (rw (c.as_str.ensures.value, c.as_str-2.ensures.value) at c.in-Ok.ensures.put))

pub returns : goal.returns
returns g c =
    rw (← c.new.view_is) (not_filled _ _ (rw (c.as_str.ensures.value, c.as_str-2.ensures.value) at c.in-Err.ensures.stopped) (rw c.as_str-in-Err.ensures.value at c.remove.ensures.act))
