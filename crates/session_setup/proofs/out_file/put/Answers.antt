use Rattle.std.proofs.Common.{inl, inr, refl}
use Rattle.session_setup.proofs.Replacing.{at_err}
use Rattle.session_setup.proofs.out_file.put.Goals as goal

pub returns-in_err-write-clause-stopped : goal.returns-in_err-write-clause-stopped
returns-in_err-write-clause-stopped g c = at_err _ c.from_residual.result (inl c.in_err-write.ensures.act)

pub returns-in_err-sync-clause-stopped : goal.returns-in_err-sync-clause-stopped
returns-in_err-sync-clause-stopped g c =
    at_err _ c.from_residual-in_err-sync.result (inr (c.write.new.self, c.in_ok-write.ensures.act, inl c.in_err-sync.ensures.act))

pub returns-in_err-rename-clause-stopped : goal.returns-in_err-rename-clause-stopped
returns-in_err-rename-clause-stopped g c =
    at_err _ c.from_residual-in_err-rename.result
    (inr (c.write.new.self, c.in_ok-write.ensures.act, inr (c.sync.new.self, c.in_ok-sync.ensures.act, inl c.in_err-rename.ensures.act)))

pub returns-clause-put : goal.returns-clause-put
returns-clause-put g c =
    (c.write.new.self, c.in_ok-write.ensures.act, (c.sync.new.self, c.in_ok-sync.ensures.act, (c.rename.new.self, c.in_ok-rename.ensures.act, refl)))
