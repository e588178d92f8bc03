use Rattle.std.proofs.Common.{◌≡◌, ℕ, ◌<◌, List}
use Rattle.std.specs.Prelude.{slice_index}
use Rattle.game_archive.specs.Knowing.{HasKey}
use Rattle.game_archive.specs.Alike.{GiveBytes}
use Rattle.game_archive.specs.Readings.{ReadAlike}
use Rattle.game_archive.proofs.grouping.Groups.find.Given as goal

-- none of those before has the key
abbrev pub invariant-loop-k : goal.invariant-loop-k
invariant-loop-k g l = record {
  size : g.A.Archive.size l.archive ≡ g.A.Archive.size l.fn.archive;
  alike : ReadAlike (g.A.Archive.reads l.fn.archive) (g.A.Archive.reads l.archive);
  quiet : g.A.Archive.noted l.archive ≡ g.A.Archive.noted l.fn.archive;
  colliding : (bytes : ℕ → List ℕ) → GiveBytes (g.A.Archive.size l.fn.archive) (g.A.Archive.reads l.fn.archive) bytes
      → (j : ℕ) → j < l.k → HasKey l.likeness (bytes (slice_index l.self.colliding.items j)) l.key → ⊥;
}
