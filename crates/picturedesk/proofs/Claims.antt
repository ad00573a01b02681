-- The claims of specs/Claims.antt.
use lib.Dec.{lit<}
use Rattle.laws.specs.Refusal.{rising}
use Rattle.laws.proofs.Claims.{lowest_says}
use Rattle.laws.proofs.Refusal.{rest_passes}
use Rattle.picture.proofs.Claims.{pixels_in_unit}
use Rattle.picture.proofs.Claims as picture
use Rattle.filter.specs.Rows.{quality_named}
use Rattle.picturedesk.specs.Pictures.{all_named, output_named}
use Rattle.picturedesk.specs.Claims.{PictureSays, SamplesInUnit, PictureInUnit}

pub picture_says : PictureSays
unfolding rising
picture_says quality output conversion previous current next f room = lowest_says _ tt

pub samples_in_unit : SamplesInUnit
samples_in_unit quality output f = picture.samples_in_unit _ _ _ _ _

pub picture_in_unit : PictureInUnit
picture_in_unit quality output conversion previous current next f room x y done =
    pixels_in_unit (quality_named quality) (output_named output) conversion f.previous f.current f.next room x y
    (rest_passes 3 (all_named quality output previous current next) _ (lit< tt) done)
