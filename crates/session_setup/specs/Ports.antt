-- The address of a server: a host and a port.
use Rattle.std.specs.Prelude.{◌≡◌, ◌≢◌, ◌≤◌, ◌⊎◌, ◌++◌, ℕ, false, List, [], ◌∷◌, decimal}
use Rattle.std.specs.List.{AllByRecursion}
use Rattle.csa_cutting.specs.Cut.{begins_with}

-- a client can connect to it
abbrev pub IsPort : ℕ → Type 0
IsPort port = (1 ≤ port) × (port ≤ 65535)

-- an address in brackets
abbrev pub IsBracketed : List ℕ → Type 0
IsBracketed host = (inside : List ℕ) × (inside ≢ []) × (host ≡ 91 ∷ (inside ++ 93 ∷ []))

-- a name, or an address without a colon
abbrev pub IsBare : List ℕ → Type 0
IsBare host = (host ≢ []) × (begins_with 91 host ≡ false) × AllByRecursion (λ b. b ≢ 58) host

-- a host, a colon, and a port in decimal
abbrev pub HasPort : List ℕ → Type 0
HasPort address = (host : List ℕ) × (port : ℕ) × (IsBracketed host ⊎ IsBare host) × IsPort port
    × (address ≡ host ++ 58 ∷ decimal port)
