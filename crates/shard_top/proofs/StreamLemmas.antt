-- Known bytes, piece by piece.
use Rattle.std.proofs.Common.{◌≡◌, ◌≢◌, ◌⊎◌, inl, inr, ℕ, ◌+◌, ◌-◌, ◌<◌, ◌≤◌, List, [], ◌++◌, Option, Some, None, Result, Ok, Err, OnErr, length, take, drop, refl, ap, sym, subst, ◌∙◌, arith, min, length-append, length-drop, length-take}
use Rattle.std.proofs.lemmas.List.{append_assoc, append-nil, take_all, take-append-drop, drop-drop, length-take-le, take-append-le, nil_from_length}
use Rattle.std.proofs.Math.Seq.{take-add, take-append_seam, take-append-add}
use Rattle.std.specs.Io.KnownBytes.{Appends, Consumes, IsAtEnd}
use Rattle.shard_script.specs.Script.{front}
use Rattle.shard_top.specs.Streams.{WasRead, Reads, ConsumesFront, AppendsFront, IsPut, put_status}
use Rattle.shard_top.specs.declared.telling.PutFault.{PutFault}
use Rattle.shard_top.specs.declared.telling.PutFault.TheVariants as faults
use Rattle.shard_base.specs.Faults.{Rose, Calm}

pub appends_more : (o m n : Option (List ℕ)) (xs ys : List ℕ) → Appends o m xs → Appends m n ys → Appends o n (xs ++ ys)
appends_more None m n xs ys a b = tt
appends_more (Some o) None n xs ys a b = absurd a
appends_more (Some o) (Some m) None xs ys a b = b
appends_more (Some o) (Some m) (Some n) xs ys a b = b ∙ ap (λ (t : List ℕ). t ++ ys) a ∙ append_assoc o xs ys

take_piece : (d k : ℕ) (bs : List ℕ) → take (d + k) bs ≡ take d bs ++ take k (drop d bs)
take_piece d k bs = take-add d k bs

-- one more piece of the bytes
pub appends_piece : (o m n : Option (List ℕ)) (d k : ℕ) (bs : List ℕ) → Appends o m (take d bs) → Appends m n (take k (drop d bs)) → Appends o n (take (d + k) bs)
appends_piece o m n d k bs a b = rw (take_piece d k bs) (appends_more o m n (take d bs) (take k (drop d bs)) a b)

-- what is behind a place
pub rest_of : (d : ℕ) (bs : List ℕ) → take (length bs - d) (drop d bs) ≡ drop d bs
rest_of d bs = take_all (length bs - d) (drop d bs) (omega (arith, length-drop d bs))

front_short : (text : List ℕ) → length text ≤ 1048577 → text ≡ front text
unfolding front
front_short text short = sym (take_all 1048577 text short)

front_full : (text n : List ℕ) → length text ≡ 1048577 → text ≡ front (text ++ n)
unfolding front
front_full text n full = sym (subst (λ (k : ℕ). take k (text ++ n) ≡ text) full (take-append_seam text n))

-- all bytes that were left
pub was_read_to_end : (o n : Option (List ℕ)) (text : List ℕ) → Consumes o n text → IsAtEnd n → length text ≤ 1048577 → WasRead o text
was_read_to_end None n text c e short = tt
was_read_to_end (Some o) None text c e short = absurd c
was_read_to_end (Some o) (Some n) text c e short =
    let all : o ≡ text = c ∙ ap (λ (t : List ℕ). text ++ t) e ∙ append-nil text in
    front_short text short ∙ ap (λ (t : List ℕ). front t) (sym all)

-- as many as are read
pub was_read_in_full : (o n : Option (List ℕ)) (text : List ℕ) → Consumes o n text → length text ≡ 1048577 → WasRead o text
was_read_in_full None n text c full = tt
was_read_in_full (Some o) None text c full = absurd c
was_read_in_full (Some o) (Some n) text c full = front_full text n full ∙ ap (λ (t : List ℕ). front t) (sym c)

consumes_more : (o m n : Option (List ℕ)) (xs ys : List ℕ) → Consumes o m xs → Consumes m n ys → Consumes o n (xs ++ ys)
consumes_more None m n xs ys a b = tt
consumes_more (Some o) None n xs ys a b = absurd a
consumes_more (Some o) (Some m) None xs ys a b = b
consumes_more (Some o) (Some m) (Some n) xs ys a b = a ∙ ap (λ (t : List ℕ). xs ++ t) b ∙ sym (append_assoc xs ys n)

-- the last piece of all
pub reads_to_end : (o m n : Option (List ℕ)) (before after : List ℕ) (k : ℕ) → Consumes o m before → Reads m n before after k → k ≡ 0 → WasRead o after
reads_to_end o m n before after k c r last =
    was_read_to_end o n after (subst (λ (t : List ℕ). Consumes o n t) (sym r.bytes.1) (consumes_more o m n before r.bytes.0 c r.bytes.2)) (r.end last) r.within

-- what was read before, and a front that is lost
pub lost_after : {T E : Type 0} (r : Result T E) (o m n : Option (List ℕ)) (text : List ℕ) → Consumes o m text → ConsumesFront m n → OnErr r (ConsumesFront o n)
lost_after (Ok x) o m n text c lost = tt
lost_after (Err e) o m n text c lost = (text ++ lost.0, consumes_more o m n text lost.0 c lost.1)

-- a source in memory gives the next n of its bytes
pub given_piece : (now bytes same room got : List ℕ) (d n : ℕ) → now ≡ drop d bytes → same ≡ bytes → n ≤ length (take (length same - d) (drop d same)) → got ≡ take n (take (length same - d) (drop d same)) → now ≡ take n (got ++ drop n room) ++ drop (d + n) bytes
given_piece now bytes same room got d n is eq within copied =
    let whole : take (length same - d) (drop d same) ≡ now = rest_of d same ∙ ap (λ (t : List ℕ). drop d t) eq ∙ sym is in
    let piece : got ≡ take n now = copied ∙ ap (λ (t : List ℕ). take n t) whole in
    let few : n ≤ length now = subst (λ (t : List ℕ). n ≤ length t) whole within in
    let size : length got ≡ n = ap (λ (t : List ℕ). length t) piece ∙ length-take-le n now few in
    let front : take n (got ++ drop n room) ≡ got = subst (λ (k : ℕ). take k (got ++ drop n room) ≡ got) size (take-append_seam got (drop n room)) in
    let rest : drop (d + n) bytes ≡ drop n now = sym (drop-drop n d bytes) ∙ ap (λ (t : List ℕ). drop n t) (sym is) in
    rw (front, rest, piece) (sym (take-append-drop n now))

-- and none only at the end
pub given_none : (bytes same room got : List ℕ) (d n m piece : ℕ) → same ≡ bytes → n ≡ min m (length (take (length same - d) (drop d same))) → m ≡ min (length room) piece → 0 < piece → length got ≡ length (take n room) → n ≡ 0 → 0 < length (got ++ drop n room) → drop (d + n) bytes ≡ []
given_none bytes same room got d n m piece eq is most some size none asked =
    let there : 0 < length room = omega (arith, size, asked, length-append got (drop n room), length-drop n room, length-take n room) in
    let short : length (drop d same) ≡ 0 = omega (arith, is, most, some, none, there, length-take (length same - d) (drop d same), length-drop d same) in
    nil_from_length (drop (d + n) bytes) (omega (arith, short, length-drop d same, length-drop (d + n) bytes, ap (λ (t : List ℕ). length t) eq))

-- ---- bytes that are put piece by piece

pub front_more : (o m n : Option (List ℕ)) (xs ys : List ℕ) → Appends o m xs → AppendsFront m n ys → AppendsFront o n (xs ++ ys)
front_more o m n xs ys a f = (
  length xs + f.0,
  omega (arith, f.1, length-append xs ys),
  rw (take-append-add xs ys f.0) (appends_more o m n xs (take f.0 ys) a f.2),
)

pub front_longer : (o n : Option (List ℕ)) (xs ys : List ℕ) → AppendsFront o n xs → AppendsFront o n (xs ++ ys)
front_longer o n xs ys f = (
  f.0,
  omega (arith, f.1, length-append xs ys),
  rw (take-append-le f.0 xs ys f.1) f.2,
)

pub appends_none : (o : Option (List ℕ)) → Appends o o []
appends_none None = tt
appends_none (Some o) = sym (append-nil o)

-- a piece behind what was put
pub put_more : {T : Type 0} (r : Result T PutFault) (o m n : Option (List ℕ)) (b c d : ℕ) (xs ys : List ℕ) → Appends o m xs → c ≡ b → IsPut r m n c d ys → IsPut r o n b d (xs ++ ys)
put_more (Ok x) o m n b c d xs ys a same h = (appends_more o m n xs ys a h.0, h.1 ∙ same)
put_more (Err faults.Sink) o m n b c d xs ys a same h = (front_more o m n xs ys a h.0, (omega (arith, same, h.1.0), subst (λ (k : ℕ). Rose k d) same h.1.1))
put_more (Err faults.OutOfMemory) o m n b c d xs ys a same h = (front_more o m n xs ys a h.0, h.1 ∙ same)

-- a piece that failed fails the whole
pub put_longer : (T U : Type 0) (e : PutFault) (o n : Option (List ℕ)) (b d : ℕ) (xs ys : List ℕ) → IsPut {T = T} (Err e) o n b d xs → IsPut {T = U} (Err e) o n b d (xs ++ ys)
put_longer T U faults.Sink o n b d xs ys h = (front_longer o n xs ys h.0, h.1)
put_longer T U faults.OutOfMemory o n b d xs ys h = (front_longer o n xs ys h.0, h.1)

-- nothing is put
pub put_nothing : (T : Type 0) (o : Option (List ℕ)) (b : ℕ) (bytes : List ℕ) → IsPut {T = T} (Err faults.OutOfMemory) o o b b bytes
put_nothing T o b bytes = ((0, omega arith, appends_none o), refl)

-- ---- the status of what was put

pub put_said : {T : Type 0} (r : Result T PutFault) (o n : Option (List ℕ)) (b d : ℕ) (bytes : List ℕ) (done status : ℕ) → IsPut r o n b d bytes → status ≡ put_status r done → Calm b d → status ≢ 6
    → (status ≡ done) × Appends o n bytes
put_said (Ok x) o n b d bytes done status h is calm no6 = (is, h.0)
put_said (Err faults.Sink) o n b d bytes done status h is calm no6 = absurd (calm h.1.1)
put_said (Err faults.OutOfMemory) o n b d bytes done status h is calm no6 = absurd (no6 is)

front_whole : (o n : Option (List ℕ)) (bytes : List ℕ) → Appends o n bytes → AppendsFront o n bytes
front_whole o n bytes a = (length bytes, omega arith, rw (take_all (length bytes) bytes (omega arith)) a)

pub put_part : {T : Type 0} (r : Result T PutFault) (o n : Option (List ℕ)) (b d : ℕ) (bytes : List ℕ) → IsPut r o n b d bytes → AppendsFront o n bytes
put_part (Ok x) o n b d bytes h = front_whole o n bytes h.0
put_part (Err faults.Sink) o n b d bytes h = h.0
put_part (Err faults.OutOfMemory) o n b d bytes h = h.0

-- the status of a run is none of streams and of memory
abbrev pub IsOfRun : ℕ → Type 0
IsOfRun done = (done < 2) ⊎ (6 < done)

not_of_run : (done status k : ℕ) → IsOfRun done → status ≡ done → status ≡ k → 2 ≤ k → k ≤ 6 → ⊥
not_of_run done status k (inl few) is at low high = omega (arith, few, is, at)
not_of_run done status k (inr many) is at low high = omega (arith, many, is, at)

pub put_cause : {T : Type 0} (r : Result T PutFault) (o n : Option (List ℕ)) (b d : ℕ) (bytes : List ℕ) (done status : ℕ) → IsOfRun done → IsPut r o n b d bytes → status ≡ put_status r done → status ≡ 5 → Rose b d
put_cause (Ok x) o n b d bytes done status run h is at = absurd (not_of_run done status 5 run is at (omega arith) (omega arith))
put_cause (Err faults.Sink) o n b d bytes done status run h is at = h.1.1
put_cause (Err faults.OutOfMemory) o n b d bytes done status run h is at = absurd (omega (arith, is, at))

pub put_failed : {T : Type 0} (r : Result T PutFault) (o n : Option (List ℕ)) (b d : ℕ) (bytes : List ℕ) (done status : ℕ) → IsPut r o n b d bytes → status ≡ put_status r done → b < d → status ≡ 5
put_failed (Ok x) o n b d bytes done status h is rose = absurd (omega (arith, h.1, rose))
put_failed (Err faults.Sink) o n b d bytes done status h is rose = is
put_failed (Err faults.OutOfMemory) o n b d bytes done status h is rose = absurd (omega (arith, h.1, rose))

pub put_not_read : {T : Type 0} (r : Result T PutFault) (done status : ℕ) → IsOfRun done → status ≡ put_status r done → status ≢ 4
put_not_read (Ok x) done status run is at = not_of_run done status 4 run is at (omega arith) (omega arith)
put_not_read (Err faults.Sink) done status run is at = omega (arith, is, at)
put_not_read (Err faults.OutOfMemory) done status run is at = omega (arith, is, at)
