use Rattle.surface_tests.proofs.archive.texts.TextsArchive.read_record.Goals.{in-Err-ReadFault, in-Err-Refused, in_default, in_default-2}
use Rattle.surface_tests.proofs.archive.texts.TextsArchive.read_record.Goals as goal

pub returns-then-is_err-clause-alike : goal.returns-then-is_err-clause-alike
returns-then-is_err-clause-alike c = λ at r.
    elim c.match-result.branch [
      | in-Err-ReadFault w ↦ rw w.self-is (λ h. h, λ h. h)
      | in-Err-Refused w ↦ rw w.self-is (λ h. h, λ h. h)
      | in_default w ↦ rw w.self-is (λ h. h, λ h. h)
      | in_default-2 w ↦ rw w.self-is (λ h. h, λ h. h)
    ]
