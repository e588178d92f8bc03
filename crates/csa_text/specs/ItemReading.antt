-- For private functions: what reading a statement returns.
-- A reader of the public contracts may skip this file.
use Rattle.std.specs.Prelude.{◌≡◌, ℕ, List, Result, MatchResult}
use Rattle.csa_text.specs.declared.fault.TextFault.{TextFault}
use Rattle.csa_text.specs.declared.item.Item.{Item}
use Rattle.csa_text.specs.Saying.{Saying, saying_of}
use Rattle.csa_text.specs.Spelling.{Spells, fault_of_row}

-- the item that the bytes spell, or the fault of their row if they spell none
abbrev pub IsRead : List ℕ → Result Item TextFault → Type 0
IsRead bytes result = MatchResult result
    (λ item. Spells bytes (saying_of item))
    (λ fault. ((saying : Saying) → Spells bytes saying → ⊥) × (fault ≡ fault_of_row bytes))
