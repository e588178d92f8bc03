use Rattle.std.proofs.Common.{◌≡◌, ◌∷◌, length, refl, arith}
use Rattle.csa_text.specs.Fields.{HasNone, IsSplit}
use Rattle.csa_text.proofs.Rows.{no_header, no_colon, no_key, refused}
use Rattle.csa_text.proofs.item.read_header.Goals as goal

pub returns-in_err-key : goal.returns-in_err-key
returns-in_err-key c =
    let line = c.args.line.now in
    let given = c.in_err-key.ensures in
    let none : HasNone 58 line = rw given.ok_part at c.split_at_byte.ensures in
    refused (36 ∷ line) c.split_at_byte.result _ _ c.from_residual.result given.value given.ok_part c.from_residual.ensures.1 (no_header line (no_colon line none)) refl

pub returns-then-is_empty : goal.returns-then-is_empty
returns-then-is_empty c =
    let line = c.args.line.now in
    let size : length c.in_ok-key.key.now ≡ 0 = grind (arith, c.if-is_empty.ensures) in
    let split : IsSplit 58 line c.in_ok-key.key.now c.in_ok-key.text.now = rw c.in_ok-key.ensures.ok_part at c.split_at_byte.ensures in
    (no_header line (no_key line c.in_ok-key.key.now c.in_ok-key.text.now split size), refl)
