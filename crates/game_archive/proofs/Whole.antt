-- The fault that a `?` passes on.
use Rattle.std.proofs.Common.{◌≡◌, Result, Ok, Err, IsErrAnd}

pub passed_on : {T E : Type 0} (r : Result T E) (fault other : E) → IsErrAnd r (λ e. e ≡ fault) → r ≡ Err other → fault ≡ other
passed_on (Ok x) fault other gives is = absurd gives
passed_on (Err e) fault other gives is = cc
