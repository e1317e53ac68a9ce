-- A longest way of moves that take no byte: how a run comes to where it begins, and its nodes, all by their places.
use Rattle.std.proofs.Common.{ℕ, List, [], ◌∷◌}
use Rattle.pp_http.proofs.WayLemmas.{Part}

-- a request UNSUBSCRIBE / HTTP/1.1 without fields, up to the LF of its empty line
unfoldable pub parts : List Part
parts =
    ((2 ∷ 3 ∷ 4 ∷ 5 ∷ 6 ∷ 9 ∷ 10 ∷ []), 11, 32) ∷
    ((12 ∷ []), 13, 47) ∷
    ((14 ∷ []), 15, 32) ∷
    ((16 ∷ 17 ∷ 20 ∷ []), 21, 49) ∷
    ([], 22, 46) ∷
    ((23 ∷ []), 24, 49) ∷
    ([], 25, 13) ∷
    ((26 ∷ 29 ∷ 47 ∷ []), 48, 10) ∷
    ([], 52, 13) ∷
    ((111 ∷ []), 112, 0) ∷ []

-- behind its CR where the byte 0 comes next: the nodes that follow, to the error of a method
unfoldable pub longest : List ℕ
longest =
    113 ∷ 116 ∷ 120 ∷ 122 ∷ 123 ∷ 124 ∷ 125 ∷ 126 ∷ 130 ∷ 131 ∷ 132 ∷ 133 ∷ 137 ∷ 138 ∷ 140 ∷ 141 ∷ 142 ∷ 175 ∷ 176 ∷ 178 ∷ 181 ∷ 182 ∷ 183 ∷ 184 ∷ 185 ∷ 0 ∷ 2 ∷ 3 ∷ 4 ∷ 5 ∷ 6 ∷ 7 ∷ 9 ∷ 10 ∷ 192 ∷ []
