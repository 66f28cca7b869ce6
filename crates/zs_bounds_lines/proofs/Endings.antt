-- One line after another, and how a run ends after some lines.
use Rattle.std.proofs.Common.{◌≡◌, ◌+◌, ℕ, List, [], ◌∷◌, ◌++◌, take, Bool, true, false, Ok, Err, Option, refl, sym, ap, ◌∙◌, append-nil, length-append, subst}
use Rattle.std.specs.Io.KnownBytes.{Appends, IsAtEnd, prepend_known}
use Rattle.std.proofs.KnownBytes.{Appends-nil, Appends-trans}
use Rattle.zs_run.specs.Headline.{Writing}
use Rattle.zs_lines.specs.Buffers.{Took}
use Rattle.zs_lines.proofs.LineLemmas.{all-read, begins, took-more, took-nothing}
use Rattle.zs_bounds_lines.specs.Ending.{Ends, IsWhole, Wrote}
use Rattle.zs_bounds_lines.specs.Steps.{IsDone, IsNoPolicy, LineEnds}
use Rattle.zs_bounds_lines.specs.declared.fault.BoundsFault.{BoundsFault}
use Rattle.zs_bounds_lines.specs.declared.fault.BoundsFault.TheVariants.{Read, Line, Memory, Write, Words}
use Rattle.zs_bounds_lines.specs.declared.options.Options.{Options}
use Rattle.zs_bounds_lines.proofs.TextLemmas.{lines-more, lines-refused, no-lines, one-line}

-- a writer before and after, as the contracts name it
abbrev pub writing : Option (List ℕ) → Option (List ℕ) → Bool → Bool → Writing
writing before taken failed flushed = record { before = before; taken = taken; failed = failed; flushed = flushed }

-- a line that is rejected, or without memory: nothing was written
pub refused : (options : Options) (number : ℕ) (line : List ℕ) (fault : BoundsFault) (before : Option (List ℕ)) (failed flushed : Bool) (U : Type 0)
    → IsNoPolicy number line fault → failed ≡ false → U → LineEnds options number line (Err fault) (writing before before failed flushed) U
refused options number line Read before failed flushed U isnt clear same = absurd isnt
refused options number line (Line at fault) before failed flushed U isnt clear same = (clear, same, isnt.0, isnt.1)
refused options number line Memory before failed flushed U isnt clear same = (clear, same)
refused options number line Write before failed flushed U isnt clear same = absurd isnt
refused options number line (Words fault) before failed flushed U isnt clear same = absurd isnt

-- a text after a text
whole-more : (xs ys : List ℕ) (flushed now : Bool) (U V W : Type 0) → IsWhole xs flushed U → IsWhole ys now V
    → (V → now ≡ flushed) → (V → U → W) → IsWhole (xs ++ ys) now W
whole-more [] [] flushed now U V W first next same joins = joins next first
whole-more [] (y ∷ ys) flushed now U V W first next same joins = next
whole-more (x ∷ xs) [] flushed now U V W first next same joins = same next ∙ first
whole-more (x ∷ xs) (y ∷ ys) flushed now U V W first next same joins = next

-- no line yet
pub done-nothing : (options : Options) (ahead before : Option (List ℕ)) (failed flushed : Bool) (U : Type 0) → U
    → IsDone options ahead ahead 0 (writing before before failed flushed) U
done-nothing options ahead before failed flushed U is = record {
  lines = [];
  read = took-nothing ahead;
  many = refl;
  wrote = ([], no-lines options, Appends-nil before, is);
}

module _ (options : Options) (ahead mid : Option (List ℕ)) (count : ℕ) (before taken : Option (List ℕ)) (failed flushed : Bool) (U : Type 0)
    (done : IsDone options ahead mid count (writing before taken failed flushed) U) where
  -- What one line adds. V says that this line left the writer unchanged, and W that the writer is
  -- still that of the beginning.
  module _ (next : Option (List ℕ)) (line : List ℕ) (took : Took mid next (line ∷ [])) (now : Option (List ℕ)) (fails flushes : Bool) (V W : Type 0)
      (same : V → (now ≡ taken) × (flushes ≡ flushed)) (joins : V → U → W) where
    read-more : Took ahead next (done.lines ++ line ∷ [])
    read-more = took-more ahead mid next done.lines (line ∷ []) done.read took

    -- the writer is unchanged by the line
    wrote-same : V → Wrote options done.lines (writing before now fails flushes) W
    wrote-same v =
        let P : Option (List ℕ) → Type 0 = λ bytes. Appends before bytes done.wrote.0 in
        let Q : Option (List ℕ) → Type 0 = λ bytes. Appends taken bytes [] in
        let R : List ℕ → Type 0 = λ text. IsWhole text flushes W in (
          done.wrote.0,
          done.wrote.1,
          subst P (sym (same v).0) done.wrote.2,
          subst R (append-nil done.wrote.0) (whole-more done.wrote.0 [] flushed flushes U V W done.wrote.3 v (λ u. (same v).1) joins),
        )

    -- one line more
    pub done-more : LineEnds options (count + 1) line (Ok tt) (writing taken now fails flushes) V
        → IsDone options ahead next (count + 1) (writing before now fails flushes) W
    done-more ends = record {
      lines = done.lines ++ line ∷ [];
      read = read-more;
      many = length-append done.lines (line ∷ []) ∙ ap (λ n. n + 1) done.many;
      wrote = (
        done.wrote.0 ++ ends.1.0,
        lines-more options done.lines line done.wrote.0 ends.1.0 done.wrote.1 ends.1.1,
        Appends-trans before taken now done.wrote.0 ends.1.0 done.wrote.2 ends.1.2,
        whole-more done.wrote.0 ends.1.0 flushed flushes U V W done.wrote.3 ends.1.3 (λ v. (same v).1) joins,
      );
    }

    -- a line at which the run ends
    pub ends-at : (fault : BoundsFault) (left : Option (List ℕ)) (unread : Bool) → unread ≡ false
        → LineEnds options (count + 1) line (Err fault) (writing taken now fails flushes) V
        → Ends options (Err fault) (record { before = ahead; left = left; failed = unread }) (writing before now fails flushes) W
    ends-at Read left unread clear ends = absurd ends
    ends-at (Line at fault) left unread clear ends = (
      clear,
      ends.0,
      (
        done.lines,
        line,
        begins ahead next (done.lines ++ line ∷ []) read-more,
        (
          ends.2 ∙ ap (λ n. n + 1) (sym done.many),
          lines-refused options done.lines line done.wrote.0 fault done.wrote.1 ends.3,
          wrote-same ends.1,
        ),
      ),
    )
    ends-at Memory left unread clear ends =
        (clear, ends.0, (done.lines, begins ahead mid done.lines done.read, wrote-same ends.1))
    ends-at (Words fault) left unread clear ends = absurd ends
    ends-at Write left unread clear ends = (
      clear,
      ends.0,
      (
        done.lines,
        line,
        begins ahead next (done.lines ++ line ∷ []) read-more,
        (
          done.wrote.0,
          ends.1.0,
          ends.1.1,
          done.wrote.1,
          one-line options line ends.1.0 ends.1.2,
          ends.1.3,
          Appends-trans before taken now done.wrote.0 (take ends.1.1 ends.1.0) done.wrote.2 ends.1.4,
        ),
      ),
    )

  -- the reader failed
  pub ends-unread : (left : Option (List ℕ)) (unread : Bool) → unread ≡ true → failed ≡ false
      → Ends options (Err Read) (record { before = ahead; left = left; failed = unread }) (writing before taken failed flushed) U
  ends-unread left unread set clear = (set, clear, (done.lines, begins ahead mid done.lines done.read, done.wrote))

  -- memory ran out while a line was read
  pub ends-without-memory : (left : Option (List ℕ)) (unread : Bool) → unread ≡ false → failed ≡ false
      → Ends options (Err Memory) (record { before = ahead; left = left; failed = unread }) (writing before taken failed flushed) U
  ends-without-memory left unread read clear = (read, clear, (done.lines, begins ahead mid done.lines done.read, done.wrote))

  -- no line remains
  pub ends-well : (left : Option (List ℕ)) (buffer : List ℕ) (unread : Bool) → unread ≡ false → failed ≡ false
      → Took mid (prepend_known buffer left) [] → IsAtEnd (prepend_known buffer left)
      → Ends options (Ok tt) (record { before = ahead; left = left; failed = unread }) (writing before taken failed flushed) U
  ends-well left buffer unread read clear took end =
      let P : List (List ℕ) → Type 0 = λ lines. Took ahead (prepend_known buffer left) lines in
      let all : Took ahead (prepend_known buffer left) done.lines =
      subst P (append-nil done.lines) (took-more ahead mid (prepend_known buffer left) done.lines [] done.read took) in
      (read, clear, (done.lines, all-read ahead left buffer done.lines all end, done.wrote))
