-- The frames of a reel file by their places in it (docs/RULES.md, "Reel file and listing"): first the measured entries, then the pictures.
-- Nothing is judged here. Of a file that is refused, the frames before that place are meant.
use Rattle.std.specs.Prelude.{ℕ, zero, suc, ◌+◌, ◌-◌, ◌*◌, cond, List, [], ◌∷◌, Option, Some, None, eqb, ltb, take, drop}
use Rattle.plane.specs.Plane.{grid_shape}
use Rattle.telecine.specs.History.{Push, picture, Call, push}
use Rattle.entry.specs.Entry.{word_at, push_in, entry_at}
use Rattle.reel.specs.declared.Pictured.{Pictured}
use Rattle.reel.specs.Reel.{pictured_in, shown, picture_bytes}

-- The file starts with the count of the shape's numbers, and where that is not 0 the numbers, ten bytes, follow.
abbrev pub shape_of : List ℕ → Option Pictured
shape_of bytes = cond (eqb (word_at bytes 0) 0) None (Some (pictured_in (drop 2 bytes)))

abbrev pub behind_shape : List ℕ → List ℕ
behind_shape bytes = cond (eqb (word_at bytes 0) 0) (drop 2 bytes) (drop 12 bytes)

-- What is behind: the count of the entries, these, twelve bytes each, the count of the pictures, and these.
abbrev pub entry_count : List ℕ → ℕ
entry_count behind = word_at behind 0

abbrev pub entries_in : List ℕ → List ℕ
entries_in behind = drop 2 behind

abbrev pub pictures_in : List ℕ → List ℕ
pictures_in behind = drop (2 + 12 * entry_count behind + 2) behind

-- picture k of those that lie one after another
abbrev pub picture_at : Option Pictured → List ℕ → ℕ → Push
picture_at p bytes k = picture (take (picture_bytes p) (drop (picture_bytes p * k) bytes)) (grid_shape (shown p).shape) (shown p).first

unfoldable pub frame_in : Option Pictured → List ℕ → ℕ → Push
frame_in p behind k =
    cond (ltb k (entry_count behind)) (push_in (entry_at (entries_in behind) k)) (picture_at p (pictures_in behind) (k - entry_count behind))

-- frame k of the file
abbrev pub frame_at : List ℕ → ℕ → Push
frame_at bytes = frame_in (shape_of bytes) (behind_shape bytes)

-- the frames before frame k, newest first
unfoldable pub frames_before : (ℕ → Push) → ℕ → List Call
frames_before frames zero = []
frames_before frames (suc k) = push (frames k) ∷ frames_before frames k
