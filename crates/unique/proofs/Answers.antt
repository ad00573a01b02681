-- Nothing else would satisfy a contract of `answers`.
use mathlib.Core.Path.{refl}
use Rattle.answers.proofs.number.Kinds as number_kinds
use Rattle.answers.proofs.number.Reads as number
use Rattle.answers.proofs.word.Kinds as word_kinds
use Rattle.answers.proofs.word.Reads as word
use Rattle.answers.proofs.byte.Kinds as byte_kinds
use Rattle.answers.proofs.byte.Reads as byte
use Rattle.answers.proofs.long.Kinds as long_kinds
use Rattle.answers.proofs.long.Reads as long
use Rattle.answers.proofs.signed.Kinds as signed_kinds
use Rattle.answers.proofs.signed.Reads as signed
use Rattle.answers.proofs.same.Kinds as same_kinds
use Rattle.answers.proofs.same.Reads as same
use Rattle.answers.proofs.same_byte.Kinds as same_byte_kinds
use Rattle.answers.proofs.same_byte.Reads as same_byte
use Rattle.answers.proofs.same_word.Kinds as same_word_kinds
use Rattle.answers.proofs.same_word.Reads as same_word
use Rattle.answers.proofs.float_of.Kinds as float_of_kinds
use Rattle.answers.proofs.float_of.Reads as float_of
use Rattle.answers.proofs.float.Kinds as float_kinds
use Rattle.answers.proofs.float.Reads as float
use Rattle.answers.proofs.same_float.Kinds as same_float_kinds
use Rattle.answers.proofs.same_float.Reads as same_float
use Rattle.answers.proofs.same_floats.Kinds as same_floats_kinds
use Rattle.answers.proofs.same_floats.Reads as same_floats
use Rattle.answers.proofs.bytes.Kinds as bytes_kinds
use Rattle.answers.proofs.bytes.Reads as bytes
use Rattle.answers.proofs.whole.Kinds as whole_Kinds
use Rattle.answers.proofs.whole.Reads as whole
use Rattle.answers.proofs.room.Kinds as room_kinds
use Rattle.answers.proofs.room.Reads as room
use Rattle.answers.proofs.lent.value.Kinds as value_kinds
use Rattle.answers.proofs.lent.value.Reads as value
use Rattle.answers.proofs.lent.part.Kinds as part_kinds
use Rattle.answers.proofs.lent.part.Reads as part
use Rattle.unique.specs.Unique.{OneAnswer, OneContent, placed}
use Rattle.unique.proofs.Law as law

pub number_once : OneAnswer 1 number_kinds.ps number_kinds.r number.Post
number_once κs a x y u v p q = (law.same p q, refl)

pub word_once : OneAnswer 1 word_kinds.ps word_kinds.r word.Post
word_once κs a x y u v p q = (law.same p q, refl)

pub byte_once : OneAnswer 1 byte_kinds.ps byte_kinds.r byte.Post
byte_once κs a x y u v p q = (law.same p q, refl)

pub long_once : OneAnswer 1 long_kinds.ps long_kinds.r long.Post
long_once κs a x y u v p q = (law.same p q, refl)

pub signed_once : OneAnswer 1 signed_kinds.ps signed_kinds.r signed.Post
signed_once κs a x y u v p q = (law.same p q, refl)

pub same_once : OneAnswer 1 same_kinds.ps same_kinds.r same.Post
same_once κs a x y u v p q = (law.same p q, refl)

pub same_byte_once : OneAnswer 1 same_byte_kinds.ps same_byte_kinds.r same_byte.Post
same_byte_once κs a x y u v p q = (law.same p q, refl)

pub same_word_once : OneAnswer 1 same_word_kinds.ps same_word_kinds.r same_word.Post
same_word_once κs a x y u v p q = (law.same p q, refl)

pub float_of_once : OneAnswer 0 float_of_kinds.ps float_of_kinds.r float_of.Post
float_of_once κs a x y u v p q = (law.same p q, refl)

pub float_once : OneAnswer 1 float_kinds.ps float_kinds.r float.Post
float_once κs a x y u v p q = (law.same p q, refl)

pub same_float_once : OneAnswer 0 same_float_kinds.ps same_float_kinds.r same_float.Post
same_float_once κs a x y u v p q = (law.same p q, refl)

pub same_floats_once : OneAnswer 2 same_floats_kinds.ps same_floats_kinds.r same_floats.Post
same_floats_once κs a x y u v p q = (law.same p q, refl)

pub bytes_once : OneContent 1 bytes_kinds.ps bytes_kinds.r (λ κs x. placed x) bytes.Post
bytes_once κs a x y u v p q = ((λ i. (law.same p.1 q.1 i, law.same p.0 q.0 i)), refl)

pub whole_once : OneAnswer 1 whole_Kinds.ps whole_Kinds.r whole.Post
whole_once κs a x y u v p q = (law.same p q, refl)

pub room_once : OneAnswer 1 room_kinds.ps room_kinds.r room.Post
room_once κs a x y u v p q = (law.same p q, refl)

pub value_once : OneAnswer 0 value_kinds.ps value_kinds.r value.Post
value_once κs a x y u v p q = (law.same p q, refl)

pub part_once : OneAnswer 0 part_kinds.ps part_kinds.r part.Post
part_once κs a x y u v p q = (law.same p q, refl)
