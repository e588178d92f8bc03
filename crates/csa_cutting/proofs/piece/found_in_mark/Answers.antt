use Rattle.std.proofs.Common.{◌≡◌, ◌+◌, ◌<◌, length, arith, [], refl, sym, ◌∙◌}
use Rattle.csa_cutting.specs.Cut.{byte_order_mark}
use Rattle.csa_cutting.specs.declared.units.Place.TheVariants.{Mark}
use Rattle.csa_cutting.proofs.Fronts.{rest_of}
use Rattle.csa_cutting.proofs.LineCutting.{nothing, something}
use Rattle.csa_cutting.proofs.Finding.{mark_whole, mark_begun, mark_missed, first_missed, some_passed, passes_mark, passes_no_mark, part_no_mark}
use Rattle.csa_cutting.proofs.piece.found_in_mark.Goals as goal
use Rattle.csa_cutting.proofs.piece.found_in_mark.Goals.{else-is_empty-via-then-is_empty+else-piece, else-is_empty-via-else-is_empty}

pub returns-then-starts_with : goal.returns-then-starts_with
returns-then-starts_with c =
    let held = c.args.held.now in
    c.first_in.ensures Mark held 0 (omega arith) (passes_mark held c.args.piece.now _
    (mark_whole held c.args.piece.now _ c.requires.0 c.requires.1 (rest_of byte_order_mark (length held)) (sym c.starts_with.ensures.value ∙ c.if-starts_with.true)))

pub returns-then-starts_with-2 : goal.returns-then-starts_with-2
returns-then-starts_with-2 c =
    let begun = mark_begun c.args.held.now c.args.piece.now _ c.requires.0 c.requires.1 (rest_of byte_order_mark (length c.args.held.now))
    (sym c.starts_with.ensures.value ∙ c.if-starts_with.false) (sym c.starts_with-else-starts_with.ensures.value ∙ c.if-starts_with-2.true) in
    (refl, begun.0, begun.1)

pub returns-then-piece : goal.returns-then-piece
returns-then-piece c =
    let piece = c.args.piece.now in
    let none : c.args.held.now ≡ [] = nothing c.args.held.now (sym c.is_empty.ensures ∙ c.if-is_empty.true) in
    let missed = mark_missed c.args.held.now piece _ c.requires.0 c.requires.1 (rest_of byte_order_mark (length c.args.held.now))
    (sym c.starts_with.ensures.value ∙ c.if-starts_with.false) (sym c.starts_with-else-starts_with.ensures.value ∙ c.if-starts_with-2.false) in
    rw none (c.first_in-then-piece.ensures Mark [] 0 (omega arith) (passes_no_mark [] piece 0 1 (first_missed piece (omega (arith, missed.1.within)) c.if-piece.true) (omega arith)))

pub returns-else-is_empty : goal.returns-else-is_empty
returns-else-is_empty c =
    let held = c.args.held.now in
    let piece = c.args.piece.now in
    let missed = mark_missed held piece _ c.requires.0 c.requires.1 (rest_of byte_order_mark (length held))
    (sym c.starts_with.ensures.value ∙ c.if-starts_with.false) (sym c.starts_with-else-starts_with.ensures.value ∙ c.if-starts_with-2.false) in
    let some : 0 < length held + missed.0 = elim c.else-is_empty.branch [
      | else-is_empty-via-then-is_empty+else-piece w ↦ some_passed held piece missed.0 missed.1 (nothing held (sym c.is_empty.ensures ∙ w.if-is_empty.true)) w.if-piece.false
      | else-is_empty-via-else-is_empty w ↦ let some = something held (sym c.is_empty.ensures ∙ w.if-is_empty.false) in omega (arith, some)
    ] in
    part_no_mark held piece missed.0 c.unit_length.result missed.1 c.requires.1 some c.unit_length.ensures.value
