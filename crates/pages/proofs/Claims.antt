-- The proofs of what specs/Claims.antt claims.
use Prim.Native.Nat.{ℕ, zero, suc, ◌+◌, ◌≤◌, ◌<◌}
use native.Mathlib.Omega.{arith}
use mathlib.Core.Path.{◌≡◌, refl, sym, ap, subst, ◌∙◌}
use mathlib.Core.Bool.{Bool, true, false, true≢false, ◌||◌}
use mathlib.Core.List.{List, [], ◌++◌, append-nil, append_assoc}
use lib.Dec.{leb, eqb}
use lib.ListN.{length, take, drop, length-append, length-take, length-drop}
use lib.Seq.{take-append-le, drop-append-le, take-append-add, take-append_seam, length-take-le}
use borrow.Author.Tests.{eq-eqb, eqb-true, eqb-false, leb-true, leb-false, le-leb}
use Rattle.pages.specs.declared.Held.{Held}
use Rattle.pages.specs.declared.Ask.{Ask}
use Rattle.pages.specs.declared.Ask.TheVariants.{Unit, Read, Write, Stop}
use Rattle.pages.specs.Pages.{nothing_held, held_of, without_of, ask_of, put}
use Rattle.pages.specs.Run.{Machine, fed, text_in, stepped_by, asked, delivered, undelivered, joined, World, answered, written_by, world_next}
use Rattle.pages.specs.Claims.{Writes, Serves, PagesAreTheText}
use Rattle.pages.proofs.Parts.{left}
use Rattle.pages.proofs.Stock.{Stock, room_in, read_in, held_then, fewer_left, reads_on}

-- ---- what is asked for

ask_stop : (have : ℕ) (ended : Bool) (want used most page : ℕ) → want ≡ 0 → used ≡ 0 → ask_of have ended want used most page ≡ Stop
unfolding ask_of
ask_stop have ended want used most page w u = simp (eq-eqb want 0 w, eq-eqb used 0 u)

ask_last : (have : ℕ) (ended : Bool) (want used most page : ℕ) → want ≡ 0 → eqb used 0 ≡ false → ask_of have ended want used most page ≡ Write used
unfolding ask_of
ask_last have ended want used most page w u = simp (eq-eqb want 0 w, u)

ask_full : (have : ℕ) (ended : Bool) (want used most page : ℕ) → eqb want 0 ≡ false → leb (used + most) page ≡ false
    → ask_of have ended want used most page ≡ Write used
unfolding ask_of
ask_full have ended want used most page w r = simp (w, r)

ask_unit : (have : ℕ) (ended : Bool) (want used most page : ℕ) → eqb want 0 ≡ false → leb (used + most) page ≡ true
    → (ended || leb want have) ≡ true → ask_of have ended want used most page ≡ Unit
unfolding ask_of
ask_unit have ended want used most page w r u = simp (w, r, u)

ask_read : (have : ℕ) (ended : Bool) (want used most page : ℕ) → eqb want 0 ≡ false → leb (used + most) page ≡ true
    → (ended || leb want have) ≡ false → ask_of have ended want used most page ≡ Read have
unfolding ask_of
ask_read have ended want used most page w r u = simp (w, r, u)

-- ---- a unit that is ready is the front of the bytes that are left

ready_front : (want : ℕ) (held more : List ℕ) (ended : Bool) → (ended || leb want (length held)) ≡ true → (ended ≡ true → more ≡ [])
    → take want held ≡ take want (held ++ more)
ready_front want held more true r e = ap (take want) (sym (append-nil held) ∙ ap (λ (l : List ℕ). held ++ l) (sym (e refl)))
ready_front want held more false r e = sym (take-append-le want held more (leb-true _ _ r))

ready_rest : (want : ℕ) (held more : List ℕ) (ended : Bool) → (ended || leb want (length held)) ≡ true → (ended ≡ true → more ≡ [])
    → drop want (held ++ more) ≡ drop want held ++ more
ready_rest want held more true r e =
    ap (λ (l : List ℕ). drop want (held ++ l)) (e refl)
    ∙ ap (drop want) (append-nil held)
    ∙ sym (append-nil (drop want held))
    ∙ ap (λ (l : List ℕ). drop want held ++ l) (sym (e refl))
ready_rest want held more false r e = drop-append-le want held more (leb-true _ _ r)

not_held : (ended : Bool) (want have : ℕ) → (ended || leb want have) ≡ false → have < want
not_held true want have e = absurd (true≢false e)
not_held false want have e = leb-false _ _ e

-- ---- a text put into a page stands behind what stood there

take_put : (page : List ℕ) (used : ℕ) (text : List ℕ) → used ≤ length page → take (used + length text) (put page used text) ≡ take used page ++ text
unfolding put
take_put page used text h =
    let at = length-take-le used page h in
    ap (λ (k : ℕ). take (k + length text) (take used page ++ (text ++ drop (used + length text) page))) (sym at)
    ∙ take-append-add (take used page) (text ++ drop (used + length text) page) (length text)
    ∙ ap (λ (l : List ℕ). take used page ++ l) (take-append_seam text (drop (used + length text) page))

within_put : (page : List ℕ) (used : ℕ) (text : List ℕ) → used ≤ length page → used + length text ≤ length (put page used text)
unfolding put
within_put page used text h = simp (length-append, length-take) (omega arith)

no_shorter : (page : List ℕ) (used : ℕ) (text : List ℕ) (most : ℕ) → used ≤ length page → most ≤ length page → most ≤ length (put page used text)
unfolding put
no_shorter page used text most h r = simp (length-append, length-take, length-drop) (omega arith)

-- ---- the program over a machine

module _ (S : Type 0) (m : Machine S) (Good : S → Type 0) (most size : ℕ) (serves : Serves m Good size) where
  abbrev world : S → Held → ℕ → Bool → List ℕ → List ℕ → List (List ℕ) → World S
  world s h used ended buffer page chunks = record {
    program = record { state = s; held = h; used = used; ended = ended; buffer = buffer; page = page };
    chunks = chunks;
  }

  -- a step more
  by_step : (w : World S) {text : List ℕ} → Writes m most (world_next m most w) text
      → Writes m most w (written_by (asked m most w.program) w.program.page ++ text)
  by_step w a = record {
    steps = suc a.steps;
    stops = a.stops;
    writes = ap (λ (more : List ℕ). written_by (asked m most w.program) w.program.page ++ more) a.writes;
  }

  by_ask : (w : World S) (a : Ask) → asked m most w.program ≡ a → (text : List ℕ)
      → Writes m most (answered a (stepped_by m a w.program) w.chunks) text
      → Writes m most w (written_by a w.program.page ++ text)
  by_ask w a e text x =
      subst (λ (b : Ask). Writes m most (answered b (stepped_by m b w.program) w.chunks) text → Writes m most w (written_by b w.program.page ++ text))
      e (by_step w) x

  -- once nothing is wanted, what stands in the page is written
  finish : (s : S) (h : Held) (used : ℕ) (ended : Bool) (buffer page : List ℕ) (chunks : List (List ℕ)) → m.want s ≡ 0
      → Writes m most (world s h used ended buffer page chunks) (take used page)
  finish s h used ended buffer page chunks z = last (eqb used 0) refl
    where
      stopped : (n : ℕ) → n ≡ 0 → asked m most (world s h n ended buffer page chunks).program ≡ Stop
      stopped n e = ask_stop (length (held_of h buffer)) ended (m.want s) n most (length page) z e

      last : (b : Bool) → eqb used 0 ≡ b → Writes m most (world s h used ended buffer page chunks) (take used page)
      last true e = record {
        steps = 0;
        stops = stopped used (eqb-true used 0 e);
        writes = ap (λ (n : ℕ). take n page) (sym (eqb-true used 0 e));
      }
      last false e =
          rw (append-nil (take used page)) at
          (by_ask (world s h used ended buffer page chunks) (Write used)
          (ask_last (length (held_of h buffer)) ended (m.want s) used most (length page) z e)
          []
          (record { steps = 0; stops = stopped 0 refl; writes = refl }))

  -- a machine that wants nothing says nothing
  quiet : (k : ℕ) (s : S) (bytes : List ℕ) → Good s → m.want s ≡ 0 → text_in m k s bytes ≡ []
  quiet zero s bytes g z = refl
  quiet (suc k) s bytes g z =
      let rest = serves.rests s (take (m.want s) bytes) g z in
      rw (rest.1, rest.0) (quiet k s (drop (m.want s) bytes) g z)

  -- what is written from a program on whose buffer is stocked with these bytes, and from one whose next unit is ready
  abbrev From : S → ℕ → List ℕ → List ℕ → Held → Bool → List ℕ → List (List ℕ) → List ℕ → Type 0
  From s used page bytes h ended buffer chunks text =
      Stock size h ended buffer chunks bytes → Writes m most (world s h used ended buffer page chunks) text

  abbrev Ready : S → ℕ → List ℕ → List ℕ → List ℕ → Type 0
  Ready s used page bytes text =
      (h : Held) (ended : Bool) (buffer : List ℕ) (chunks : List (List ℕ)) →
      (ended || leb (m.want s) (length (held_of h buffer))) ≡ true → From s used page bytes h ended buffer chunks text

  -- a read, where the next unit is not held: after it the unit is ready, or fewer bytes have still to come
  read_more : (s : S) (used : ℕ) (page bytes text : List ℕ) → eqb (m.want s) 0 ≡ false → m.want s ≤ size → leb (used + most) (length page) ≡ true
      → Ready s used page bytes text → (h : Held) (ended : Bool) (buffer : List ℕ) (chunks : List (List ℕ))
      → ((h' : Held) (ended' : Bool) (buffer' : List ℕ) (chunks' : List (List ℕ)) → length (joined chunks') < length (joined chunks)
      → From s used page bytes h' ended' buffer' chunks' text)
      → From s used page bytes h ended buffer chunks text
  read_more s used page bytes text w holds room unit h ended buffer chunks again stock =
      held (ended || leb (m.want s) (length (held_of h buffer))) refl
    where
      chunk : List ℕ
      chunk = delivered (room_in h buffer) chunks

      after : Bool → World S
      after b = world s (held_then h buffer chunks) used b (read_in h buffer chunks) page (undelivered (room_in h buffer) chunks)

      came : (b : Bool) → eqb (length chunk) 0 ≡ b → Stock size (held_then h buffer chunks) b (read_in h buffer chunks) (undelivered (room_in h buffer) chunks) bytes
          → Writes m most (after b) text
      came true e then = unit (held_then h buffer chunks) true (read_in h buffer chunks) (undelivered (room_in h buffer) chunks) refl then
      came false e then =
          again (held_then h buffer chunks) false (read_in h buffer chunks) (undelivered (room_in h buffer) chunks)
          (omega (arith, eqb-false (length chunk) 0 e, fewer_left (room_in h buffer) chunks))
          then

      held : (b : Bool) → (ended || leb (m.want s) (length (held_of h buffer))) ≡ b → Writes m most (world s h used ended buffer page chunks) text
      held true e = unit h ended buffer chunks e stock
      held false e =
          let free : length (held_of h buffer) < size = omega (arith, not_held ended (m.want s) (length (held_of h buffer)) e, holds) in
          by_ask (world s h used ended buffer page chunks) (Read (length (held_of h buffer)))
          (ask_read (length (held_of h buffer)) ended (m.want s) used most (length page) w room e)
          text
          (came (eqb (length chunk) 0) refl (reads_on stock free))

  fill : (s : S) (used : ℕ) (page bytes text : List ℕ) → eqb (m.want s) 0 ≡ false → m.want s ≤ size → leb (used + most) (length page) ≡ true
      → Ready s used page bytes text → (fuel : ℕ) (h : Held) (ended : Bool) (buffer : List ℕ) (chunks : List (List ℕ))
      → length (joined chunks) ≤ fuel → From s used page bytes h ended buffer chunks text
  fill s used page bytes text w holds room unit zero h ended buffer chunks few =
      read_more s used page bytes text w holds room unit h ended buffer chunks (λ h' ended' buffer' chunks' less. absurd (omega arith))
  fill s used page bytes text w holds room unit (suc fuel) h ended buffer chunks few =
      read_more s used page bytes text w holds room unit h ended buffer chunks
      (λ h' ended' buffer' chunks' less. fill s used page bytes text w holds room unit fuel h' ended' buffer' chunks' (omega arith))

  -- a page with no room for another unit is written out first
  flush : (s : S) (h : Held) (used : ℕ) (ended : Bool) (buffer page : List ℕ) (chunks : List (List ℕ)) (text : List ℕ)
      → eqb (m.want s) 0 ≡ false → used ≤ length page → most ≤ length page
      → ((n : ℕ) → n ≤ length page → leb (n + most) (length page) ≡ true → Writes m most (world s h n ended buffer page chunks) (take n page ++ text))
      → Writes m most (world s h used ended buffer page chunks) (take used page ++ text)
  flush s h used ended buffer page chunks text w within room more = fits (leb (used + most) (length page)) refl
    where
      fits : (b : Bool) → leb (used + most) (length page) ≡ b → Writes m most (world s h used ended buffer page chunks) (take used page ++ text)
      fits true e = more used within e
      fits false e =
          by_ask (world s h used ended buffer page chunks) (Write used)
          (ask_full (length (held_of h buffer)) ended (m.want s) used most (length page) w e)
          text
          (more 0 (omega arith) (le-leb (0 + most) (length page) (omega (arith, room))))

  -- a unit that is ready is used up, and its text stands in the page
  stocked : (want : ℕ) (h : Held) (ended : Bool) (buffer : List ℕ) (chunks : List (List ℕ)) (bytes : List ℕ)
      → (ended || leb want (length (held_of h buffer))) ≡ true → Stock size h ended buffer chunks bytes
      → Stock size (without_of h want) ended buffer chunks (drop want bytes)
  stocked want h ended buffer chunks bytes r stock = record {
    long = stock.long;
    is =
        ap (drop want) stock.is
        ∙ ready_rest want (held_of h buffer) (joined chunks) ended r stock.end
        ∙ ap (λ (l : List ℕ). l ++ joined chunks) (sym (left h.from h.to want buffer));
    end = stock.end;
  }

  -- what is written from there on
  abbrev Later : ℕ → S → List ℕ → Type 0
  Later k s bytes =
      (h : Held) (used : ℕ) (ended : Bool) (buffer page : List ℕ) (chunks : List (List ℕ)) → used ≤ length page → most ≤ length page →
      Stock size h ended buffer chunks bytes → Writes m most (world s h used ended buffer page chunks) (take used page ++ text_in m k s bytes)

  put_on : (s : S) (h : Held) (used : ℕ) (ended : Bool) (buffer page : List ℕ) (chunks : List (List ℕ)) (more text : List ℕ) → used ≤ length page
      → Writes m most (world s h (used + length text) ended buffer (put page used text) chunks) (take (used + length text) (put page used text) ++ more)
      → Writes m most (world s h (used + length text) ended buffer (put page used text) chunks) (take used page ++ (text ++ more))
  put_on s h used ended buffer page chunks more text within x =
      subst (λ (l : List ℕ). Writes m most (world s h (used + length text) ended buffer (put page used text) chunks) l)
      (ap (λ (l : List ℕ). l ++ more) (take_put page used text within) ∙ append_assoc (take used page) text more)
      x

  one_unit : (k : ℕ) (s : S) (used : ℕ) (page bytes : List ℕ) → eqb (m.want s) 0 ≡ false → used ≤ length page → most ≤ length page
      → leb (used + most) (length page) ≡ true → Later k (m.next s (take (m.want s) bytes)) (drop (m.want s) bytes)
      → Ready s used page bytes (take used page ++ text_in m (suc k) s bytes)
  one_unit k s used page bytes w within room fits later h ended buffer chunks r stock =
      let want = m.want s in
      let text = m.text s (take want bytes) in
      let same : take want (held_of h buffer) ≡ take want bytes =
      ready_front want (held_of h buffer) (joined chunks) ended r stock.end ∙ ap (take want) (sym stock.is) in
      by_ask (world s h used ended buffer page chunks) Unit
      (ask_unit (length (held_of h buffer)) ended want used most (length page) w fits r)
      (take used page ++ text_in m (suc k) s bytes)
      (subst
      (λ (u : List ℕ). Writes m most (world (m.next s u) (without_of h want) (used + length (m.text s u)) ended buffer (put page used (m.text s u)) chunks) (take used page ++ text_in m (suc k) s bytes))
      (sym same)
      (put_on (m.next s (take want bytes)) (without_of h want) used ended buffer page chunks (text_in m k (m.next s (take want bytes)) (drop want bytes)) text within
      (later (without_of h want) (used + length text) ended buffer (put page used text) chunks
      (within_put page used text within)
      (no_shorter page used text most within room)
      (stocked want h ended buffer chunks bytes r stock))))

  one_turn : (k : ℕ) (s : S) (bytes : List ℕ) → Good s → Later k (m.next s (take (m.want s) bytes)) (drop (m.want s) bytes) → Later (suc k) s bytes
  one_turn k s bytes g later h used ended buffer page chunks within room stock = wanted (eqb (m.want s) 0) refl
    where
      wanted : (b : Bool) → eqb (m.want s) 0 ≡ b → Writes m most (world s h used ended buffer page chunks) (take used page ++ text_in m (suc k) s bytes)
      wanted true e =
          subst (λ (l : List ℕ). Writes m most (world s h used ended buffer page chunks) l)
          (sym (append-nil (take used page)) ∙ ap (λ (l : List ℕ). take used page ++ l) (sym (quiet (suc k) s bytes g (eqb-true (m.want s) 0 e))))
          (finish s h used ended buffer page chunks (eqb-true (m.want s) 0 e))
      wanted false e =
          flush s h used ended buffer page chunks (text_in m (suc k) s bytes) e within room
          (λ n inside fits.
          fill s n page bytes (take n page ++ text_in m (suc k) s bytes) e (serves.holds s g) fits
          (one_unit k s n page bytes e inside room fits later)
          (length (joined chunks)) h ended buffer chunks (omega arith) stock)

  -- unit after unit
  turns : (k : ℕ) (s : S) (bytes : List ℕ) → Good s → m.want (fed m k s bytes) ≡ 0 → Later k s bytes
  turns zero s bytes g z = λ h used ended buffer page chunks within room stock.
      rw (append-nil (take used page)) (finish s h used ended buffer page chunks z)
  turns (suc k) s bytes g z =
      one_turn k s bytes g
      (turns k (m.next s (take (m.want s) bytes)) (drop (m.want s) bytes) (serves.stays s (take (m.want s) bytes) g) z)

pub pages_are_the_text : PagesAreTheText
pages_are_the_text S m Good most buffer page serves room s g chunks units z =
    turns S m Good most (length buffer) serves units s (joined chunks) g z nothing_held 0 false buffer page chunks (omega arith) room
    (record { long = refl; is = refl; end = λ e. absurd (true≢false (sym e)) })
