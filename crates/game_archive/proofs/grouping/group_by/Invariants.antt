use Rattle.std.proofs.Common.{◌≡◌, ◌+◌, ℕ, List, length}
use Rattle.game_archive.specs.Groups.{outside}
use Rattle.game_archive.specs.Knowing.{HoldsDigests, HoldsLeaders, KeepsFew, KnowsGroups}
use Rattle.game_archive.specs.Alike.{GiveBytes}
use Rattle.game_archive.specs.Readings.{ReadAlike, how_many}
use Rattle.game_archive.specs.Unreadable.{HaveCausesBetween}
use Rattle.game_archive.proofs.grouping.group_by.Given as goal

-- the entries before this one are in groups
abbrev pub invariant-loop-at : goal.invariant-loop-at
invariant-loop-at g l = record {
  counted : length l.groups.placings.items ≡ l.at;
  size : g.A.Archive.size l.archive ≡ g.A.Archive.size l.fn.archive;
  alike : ReadAlike (g.A.Archive.reads l.fn.archive) (g.A.Archive.reads l.archive);
  leaders : HoldsLeaders l.groups.placings.items l.groups.by_digest l.groups.colliding.items;
  digests : HoldsDigests l.likeness (g.D.Digester.digest_of l.digester) (g.A.Archive.reads l.fn.archive) l.groups.placings.items l.groups.by_digest l.groups.colliding.items;
  few : KeepsFew l.groups.placings.items l.groups.by_digest l.groups.colliding.items;
  known : (bytes : ℕ → List ℕ) → GiveBytes (g.A.Archive.size l.fn.archive) (g.A.Archive.reads l.fn.archive) bytes
      → KnowsGroups l.likeness bytes (g.D.Digester.digest_of l.digester) l.groups.placings.items l.groups.by_digest l.groups.colliding.items;
  noted : how_many (g.A.Archive.noted l.archive) ≡ how_many (g.A.Archive.noted l.fn.archive) + outside l.groups.placings.items;
  causes : HaveCausesBetween l.likeness (g.D.Digester.digest_of l.digester) (g.A.Archive.reads l.fn.archive) (g.A.Archive.noted l.fn.archive) (g.A.Archive.noted l.archive) l.groups.placings.items;
}
