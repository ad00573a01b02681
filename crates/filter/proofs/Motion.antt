-- Motion, from the eight values that it reads.
use mathlib.Core.Path.{◌≡◌}
use lib.IntN.{ℤ, ◌+ℤ◌, ◌-ℤ◌}
use lib.Ieee.{Float, binary32, mul}
use Rattle.float.specs.Float.{max_of}
use Rattle.filter.specs.Filter.{Sampler, one, half_f, mean_of, gap_of, wider_of, beyond_of, held_of, average_of, change_of, above_of, below_of, outside_of, moved_of, in_motion_of}

-- the values that are read, put together step by step
pub joined :
    (before cur after : Sampler) (x y : ℤ) {up down : ℤ} (along : Float)
    {earlier later c e Earlier-up later-up earlier-down later-down average change above below outside two three moved held : Float} →
    up ≡ y -ℤ one →
    down ≡ y +ℤ one →
    earlier ≡ before x y →
    later ≡ after x y →
    c ≡ cur x up →
    e ≡ cur x down →
    Earlier-up ≡ before x up →
    later-up ≡ after x up →
    earlier-down ≡ before x down →
    later-down ≡ after x down →
    average ≡ mean_of earlier later →
    change ≡ gap_of earlier later →
    above ≡ wider_of Earlier-up later-up c →
    below ≡ wider_of earlier-down later-down e →
    outside ≡ beyond_of average c e →
    two ≡ max_of change above →
    three ≡ max_of two below →
    moved ≡ max_of (mul binary32 three half_f) outside →
    held ≡ held_of along average moved →
    held ≡ in_motion_of before cur after x y along
unfolding average_of change_of above_of below_of outside_of moved_of in_motion_of
joined before cur after x y along up down e1 e2 e3 e4 e5 e6 e7 e8 a1 a2 a3 a4 a5 a6 a7 a8 a9 = cc

-- Where the eight values are the same, so is what they hold.
pub same_motion :
    (before cur after before' cur' after' : Sampler) (x y x' y' : ℤ) {along along' : Float} →
    before x y ≡ before' x' y' →
    after x y ≡ after' x' y' →
    cur x (y -ℤ one) ≡ cur' x' (y' -ℤ one) →
    cur x (y +ℤ one) ≡ cur' x' (y' +ℤ one) →
    before x (y -ℤ one) ≡ before' x' (y' -ℤ one) →
    after x (y -ℤ one) ≡ after' x' (y' -ℤ one) →
    before x (y +ℤ one) ≡ before' x' (y' +ℤ one) →
    after x (y +ℤ one) ≡ after' x' (y' +ℤ one) →
    along ≡ along' →
    in_motion_of before cur after x y along ≡ in_motion_of before' cur' after' x' y' along'
unfolding average_of change_of above_of below_of outside_of moved_of in_motion_of
same_motion before cur after before' cur' after' x y x' y' e1 e2 e3 e4 e5 e6 e7 e8 e9 = cc
