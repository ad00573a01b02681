-- The example of a reel file and of its listing (docs/RULES.md, "Reel file and listing").
use Rattle.std.specs.Prelude.{ℕ, List, [], ◌∷◌, ◌++◌}

-- ---- the file

-- A top entry that is present, with its busy counts; and one that is absent. Totals are 1350, which is 70 + 256 * 5.
abbrev pub present : ℕ → ℕ → List ℕ
present leading trailing = 0 ∷ 0 ∷ 1 ∷ 0 ∷ leading ∷ 0 ∷ 70 ∷ 5 ∷ trailing ∷ 0 ∷ 70 ∷ 5 ∷ []

abbrev pub absent : List ℕ
absent = 0 ∷ 0 ∷ 0 ∷ 0 ∷ 0 ∷ 0 ∷ 70 ∷ 5 ∷ 0 ∷ 0 ∷ 70 ∷ 5 ∷ []

-- Shape 0; 13 entries; pictures 0. Entry 0 absent; 1, 6, 11, 12 busy 0 and 40; 3, 8 busy 40 and 0; others 40 and 40.
unfoldable pub example_file : List ℕ
example_file =
    0 ∷ 0 ∷ 13 ∷ 0 ∷ (absent ++ (present 0 40 ++ (present 40 40 ++ (present 40 0 ++ (present 40 40 ++ (present 40 40 ++ (present 0 40 ++ (present 40 40
    ++ (present 40 0 ++ (present 40 40 ++ (present 40 40 ++ (present 0 40 ++ (present 0 40 ++ (0 ∷ 0 ∷ []))))))))))))))

-- ---- the listing

-- what stands behind a frame's number: " none 0", " whole 1" or " drop 1", and the end of the line
abbrev none : List ℕ
none = 32 ∷ 110 ∷ 111 ∷ 110 ∷ 101 ∷ 32 ∷ 48 ∷ 10 ∷ []

abbrev whole : List ℕ
whole = 32 ∷ 119 ∷ 104 ∷ 111 ∷ 108 ∷ 101 ∷ 32 ∷ 49 ∷ 10 ∷ []

abbrev drop : List ℕ
drop = 32 ∷ 100 ∷ 114 ∷ 111 ∷ 112 ∷ 32 ∷ 49 ∷ 10 ∷ []

-- "whole 2 drop 1 spanning 0 none 10"
abbrev totals : List ℕ
totals = 119 ∷ 104 ∷ 111 ∷ 108 ∷ 101 ∷ 32 ∷ 50 ∷ 32 ∷ 100 ∷ 114 ∷ 111 ∷ 112 ∷ 32 ∷ 49 ∷ 32 ∷ 115 ∷ 112 ∷ 97 ∷ 110 ∷ 110 ∷ 105 ∷ 110 ∷ 103 ∷ 32 ∷ 48 ∷ 32 ∷ 110 ∷ 111 ∷ 110 ∷ 101 ∷ 32 ∷ 49 ∷ 48 ∷ 10 ∷ []

-- frames 0 to 8 are none; 9 and 10 whole, 11 drop, 12 none; the digits 0 to 9 are 48 to 57
unfoldable pub example_listing : List ℕ
example_listing =
    48 ∷ (none ++ (49 ∷ (none ++ (50 ∷ (none ++ (51 ∷ (none ++ (52 ∷ (none ++ (53 ∷ (none ++ (54 ∷ (none ++ (55 ∷ (none ++ (56 ∷ (none
    ++ (57 ∷ (whole ++ (49 ∷ 48 ∷ (whole ++ (49 ∷ 49 ∷ (drop ++ (49 ∷ 50 ∷ (none ++ totals)))))))))))))))))))))))))
