use Rattle.std.proofs.Common.{◌≡◌, ◌++◌, map}
use Rattle.std.specs.List.{flat_map}
use Rattle.record_game.specs.Canon.{ended_line, header_item}
use Rattle.csa_record.specs.TitleBytes.{entries_of}
use Rattle.csa_record.proofs.titles.write_entries.Given as goal

abbrev pub invariant-loop-key : goal.invariant-loop-key
invariant-loop-key l =
    l.out.items ++ flat_map ended_line (map header_item (entries_of l.key-iterator))
    ≡ l.fn.out.items ++ flat_map ended_line (map header_item (entries_of l.headers.entries))
