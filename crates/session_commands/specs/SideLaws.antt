-- For private functions: why what one side does changes nothing in the writer of the other.
use Rattle.std.specs.Prelude.{◌≡◌, ◌≢◌, ℕ, List, Option, refl}
use Rattle.std.proofs.Common.{ap}
use Rattle.std.specs.Io.KnownBytes.{Appends}
use Rattle.session_commands.specs.declared.bridging.Peer.{Peer}
use Rattle.session_commands.specs.declared.bridging.Peer.TheVariants.{Engine, Server}
use Rattle.session_commands.specs.Plays.{OfPeer, by_peer}

-- a side that takes lines has them in its writer
pub side_takes : (A B C D : Type 0) (a b c d : Option (List ℕ)) (lines : List ℕ) (peer : Peer)
    → OfPeer peer (Appends a b lines × A × B) (Appends c d lines × C × D)
    → Appends (by_peer peer a c) (by_peer peer b d) lines
side_takes A B C D a b c d lines Engine p = p.0
side_takes A B C D a b c d lines Server p = p.0

-- a side that is read keeps its writer, and the other is unchanged
pub side_read : {S T X Y : Type 0} (s t : S) (u v : T) (x : S → X) (y : T → Y)
    (f : X → Option (List ℕ)) (g : Y → Option (List ℕ)) (peer other : Peer)
    → OfPeer peer ((x t ≡ x s) × (v ≡ u)) ((y v ≡ y u) × (t ≡ s))
    → by_peer other (f (x t)) (g (y v)) ≡ by_peer other (f (x s)) (g (y u))
side_read s t u v x y f g Engine Engine p = ap f p.0
side_read s t u v x y f g Engine Server p = ap (λ z. g (y z)) p.1
side_read s t u v x y f g Server Engine p = ap (λ z. f (x z)) p.1
side_read s t u v x y f g Server Server p = ap g p.0

-- the other side is unchanged
pub other_side : {S T : Type 0} (s t : S) (u v : T)
    (f : S → Option (List ℕ)) (g : T → Option (List ℕ)) (peer other : Peer)
    → OfPeer peer (v ≡ u) (t ≡ s) → other ≢ peer
    → by_peer other (f t) (g v) ≡ by_peer other (f s) (g u)
other_side s t u v f g Engine Engine p differ = absurd (differ refl)
other_side s t u v f g Engine Server p differ = ap g p
other_side s t u v f g Server Engine p differ = ap f p
other_side s t u v f g Server Server p differ = absurd (differ refl)

pub last_of_three : (A B C D E F : Type 0) (peer : Peer)
    → OfPeer peer (A × B × C) (D × E × F) → OfPeer peer C F
last_of_three A B C D E F Engine p = p.2
last_of_three A B C D E F Server p = p.2

pub last_two_of_three : (A B C D E F : Type 0) (peer : Peer)
    → OfPeer peer (A × B × C) (D × E × F) → OfPeer peer (B × C) (E × F)
last_two_of_three A B C D E F Engine p = (p.1, p.2)
last_two_of_three A B C D E F Server p = (p.1, p.2)

pub last_of_two : (A B C D : Type 0) (peer : Peer) → OfPeer peer (A × B) (C × D) → OfPeer peer B D
last_of_two A B C D Engine p = p.1
last_of_two A B C D Server p = p.1
