-- The endings of a game that are read.
use Rattle.std.specs.Prelude.{ℕ, List, codes}
use Rattle.csa_text.specs.declared.ending.Ending.{Ending}
use Rattle.csa_text.specs.declared.ending.Ending.TheVariants.{Toryo, Chudan, Sennichite, TimeUp, IllegalMove, BlackIllegalAction, WhiteIllegalAction, Jishogi, Kachi, Hikiwake, MaxMoves, Matta, Tsumi, Fuzumi, Error}

-- the text after the `%`
abbrev pub ending_name : Ending → List ℕ
ending_name Toryo = codes "TORYO"
ending_name Chudan = codes "CHUDAN"
ending_name Sennichite = codes "SENNICHITE"
ending_name TimeUp = codes "TIME_UP"
ending_name IllegalMove = codes "ILLEGAL_MOVE"
ending_name BlackIllegalAction = codes "+ILLEGAL_ACTION"
ending_name WhiteIllegalAction = codes "-ILLEGAL_ACTION"
ending_name Jishogi = codes "JISHOGI"
ending_name Kachi = codes "KACHI"
ending_name Hikiwake = codes "HIKIWAKE"
ending_name MaxMoves = codes "MAX_MOVES"
ending_name Matta = codes "MATTA"
ending_name Tsumi = codes "TSUMI"
ending_name Fuzumi = codes "FUZUMI"
ending_name Error = codes "ERROR"
