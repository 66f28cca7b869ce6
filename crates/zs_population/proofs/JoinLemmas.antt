-- How joining reports ends, after some first reports.
use Rattle.std.proofs.Common.{◌≡◌, ◌≤◌, ◌<◌, ◌+◌, ℕ, List, [], ◌∷◌, ◌++◌, length, map}
use Rattle.std.proofs.Common.{take, drop, get_or, Bool, true, false, Ok, Err, Option}
use Rattle.std.proofs.Common.{refl, sym, ap, ◌∙◌, append-nil, length-append, arith}
use Rattle.std.proofs.Common.{string_bytes, String, Global}
use Rattle.std.specs.Io.KnownBytes.{Appends}
use Rattle.std.specs.Prelude.{IsTrue, ◌↔◌}
use Rattle.std.proofs.KnownBytes.{Appends-nil, Appends-trans}
use Rattle.std.proofs.lemmas.List.{drop_more, get_or-map, length-map, take-append-le, take_all}
use Rattle.std.proofs.lemmas.List.{take_more}
use Rattle.std.proofs.Math.Seq.{take-append-add}
use Rattle.zs_engine.specs.declared.fault.EngineFault.{EngineFault}
use Rattle.zs_run.specs.Headline.{Reading}
use Rattle.zs_run.specs.Plan.{PlanRecord}
use Rattle.zs_run.specs.PlanReport.{with_total}
use Rattle.zs_lines.specs.Streams.{ByWriter}
use Rattle.zs_population.specs.Ending.{IsWhole}
use Rattle.zs_population.specs.Joining.{AreParts, JoinEnds, WasRead, WroteParts}
use Rattle.zs_population.specs.JoinProgress.{AddFails, AddsReport, HasJoined, PopulationFails}
use Rattle.zs_population.specs.Sums.{HasSums}
use Rattle.zs_population.specs.declared.joining.JoinProgress.{JoinProgress}
use Rattle.zs_population.specs.declared.lines.Sums.{Sums}
use Rattle.zs_population.specs.declared.fault.PopulationFault.{PopulationFault}
use Rattle.zs_population.specs.declared.fault.PopulationFault.TheVariants.{Read, Line, Engine}
use Rattle.zs_population.specs.declared.fault.PopulationFault.TheVariants.{Write, Report, Missing}
use Rattle.zs_population.specs.declared.fault.PopulationFault.TheVariants.{Words}
use Rattle.zs_population.proofs.Done.{with_total-append}
use Rattle.zs_population.proofs.Trailers.{parts-snoc}

-- ---- the reports of paths

-- the report with a number
report-is : (contents : List ℕ → Option (List ℕ)) (paths : List (String Global)) (n : ℕ)
    (path : String Global) → n < length paths → path ≡ get_or paths n path
    → get_or (map contents (map string_bytes paths)) n (contents (string_bytes path))
    ≡ contents (string_bytes path)
report-is contents paths n path within is =
    get_or-map contents (map string_bytes paths) n (string_bytes path)
    (contents (string_bytes path)) (omega (arith, within, length-map paths string_bytes))
    ∙ ap contents (get_or-map string_bytes paths n path (string_bytes path) within)
    ∙ ap (λ (p : String Global). contents (string_bytes p)) (sym is)

-- there is a report for each path
pub reports-many : (contents : List ℕ → Option (List ℕ)) (paths : List (String Global)) →
    length (map contents (map string_bytes paths)) ≡ length paths
reports-many contents paths =
    length-map (map string_bytes paths) contents ∙ length-map paths string_bytes

-- the first reports, with one more
pub report-taken : (contents : List ℕ → Option (List ℕ)) (paths : List (String Global)) (n : ℕ)
    (path : String Global) → n < length paths → path ≡ get_or paths n path
    → take (n + 1) (map contents (map string_bytes paths))
    ≡ take n (map contents (map string_bytes paths)) ++ contents (string_bytes path) ∷ []
report-taken contents paths n path within is =
    let reports : List (Option (List ℕ)) = map contents (map string_bytes paths) in
    take_more reports n (contents (string_bytes path))
    (omega (arith, within, reports-many contents paths))
    ∙ ap (λ (bytes : Option (List ℕ)). take n reports ++ bytes ∷ [])
    (report-is contents paths n path within is)

-- the report after the first ones
pub report-dropped : (contents : List ℕ → Option (List ℕ)) (paths : List (String Global)) (n : ℕ)
    (path : String Global) → n < length paths → path ≡ get_or paths n path
    → drop n (map contents (map string_bytes paths)) ≡ contents (string_bytes path)
    ∷ drop (n + 1) (map contents (map string_bytes paths))
report-dropped contents paths n path within is =
    let reports : List (Option (List ℕ)) = map contents (map string_bytes paths) in
    drop_more reports n (contents (string_bytes path))
    (omega (arith, within, reports-many contents paths))
    ∙ ap (λ (bytes : Option (List ℕ)). bytes ∷ drop (n + 1) reports)
    (report-is contents paths n path within is)

-- ---- reports that were joined

-- no report yet
pub joined-none : (sums : Sums) (reports : List (Option (List ℕ))) (before : Option (List ℕ)) →
    HasJoined sums reports 0 (record { reports = 0; next = 0; polls = 0; sent = 0 }) before before
joined-none sums reports before = ([], (refl, refl, refl), Appends-nil before, refl)

-- one more report
pub joined-more : (sums : Sums) (reports : List (Option (List ℕ))) (n : ℕ) (bytes : Option (List ℕ))
    (old new : JoinProgress) (before mid taken : Option (List ℕ))
    → take (n + 1) reports ≡ take n reports ++ bytes ∷ [] → HasJoined sums reports n old before mid
    → AddsReport sums bytes old new mid taken → HasJoined sums reports (n + 1) new before taken
joined-more sums reports n bytes old new before mid taken more has adds =
    let parts = parts-snoc sums 0 (take n reports) old.next has.0 old.polls has.1 bytes adds.0
    adds.1.0 adds.1.1 in (
      has.0 ++ adds.0.lines,
      rw (more, adds.2, adds.3) parts,
      Appends-trans before mid taken has.0 adds.0.lines has.2 adds.5,
      omega (arith, adds.4, has.3, length-append has.0 adds.0.lines),
    )

unset : (mark : Bool) → (IsTrue mark → ⊥) → mark ≡ false
unset true never = absurd (never refl)
unset false never = refl

-- ---- endings

-- the population can't be read
pub join-unread : (reports : List (Option (List ℕ))) (start left taken : Option (List ℕ))
    (read flushed : Bool) (Untouched : Type 0) (fault : PopulationFault)
    → PopulationFails start fault → IsTrue read ↔ (fault ≡ Read) → Untouched
    → JoinEnds reports (Err fault) (record { before = start; left = left; failed = read })
    (record { before = taken; taken = taken; failed = false; flushed = flushed }) Untouched
join-unread reports start left taken read flushed Untouched Read stopped marks same =
    (marks.1 refl, refl, same)
join-unread reports start left taken read flushed Untouched (Line line fault) stopped marks same =
    (unset read (λ set. let no : Line line fault ≡ Read = marks.0 set in cc), refl, stopped, same)
join-unread reports start left taken read flushed Untouched (Engine fault) stopped marks same =
    absurd stopped
join-unread reports start left taken read flushed Untouched (Write sent) stopped marks same =
    absurd stopped
join-unread reports start left taken read flushed Untouched (Report number fault) stopped marks
    same = absurd stopped
join-unread reports start left taken read flushed Untouched (Missing next) stopped marks same =
    absurd stopped
join-unread reports start left taken read flushed Untouched (Words fault) stopped marks same =
    absurd stopped

module _ (reports : List (Option (List ℕ))) (r : Reading) (count : ℕ) (sums : Sums)
    (clear : r.failed ≡ false)
    (was : WasRead r (λ plan others. (count ≡ length plan.jobs) × (sums ≡ others))) where
  -- what holds of the population that was read, and its sums
  was-read : (P : PlanRecord → Sums → Type 0) →
      ((plan : PlanRecord) → count ≡ length plan.jobs → P plan sums) → WasRead r P
  was-read P holds = (
    was.0,
    sums,
    was.2,
    (let known : HasSums r.before sums = rw was.4.1 was.3 in
        known),
    holds was.0 was.4.0,
  )

  -- a text after the lines of some reports, as a beginning of these with their total
  sent-of : (lines text : List ℕ) (polls k : ℕ) → k ≤ length text
      → (length lines + k ≤ length (with_total (lines ++ text) polls))
      × (take (length lines + k) (with_total (lines ++ text) polls) ≡ lines ++ take k text)
  sent-of lines text polls k within =
      let rest : List ℕ = with_total [] polls in
      let after : with_total text polls ≡ text ++ rest =
      ap (λ (bs : List ℕ). with_total bs polls) (sym (append-nil text))
      ∙ with_total-append text [] polls in
      let whole : with_total (lines ++ text) polls ≡ lines ++ (text ++ rest) =
      with_total-append lines text polls ∙ ap (λ (bs : List ℕ). lines ++ bs) after in (
        omega (
          arith,
          ap (λ (bs : List ℕ). length bs) whole,
          length-append lines (text ++ rest),
          length-append text rest,
          within,
        ),
        ap (λ (bs : List ℕ). take (length lines + k) bs) whole ∙ take-append-add lines
            (text ++ rest) k ∙ ap (λ (bs : List ℕ). lines ++ bs)
            (take-append-le k text rest within),
      )

  -- a report can't be added
  pub join-unadded : {W : Type 0} (contents : W → Option (List ℕ)) (mark flushed : W → Bool)
      (first old new : W) (n : ℕ) (bytes : Option (List ℕ)) (joined : JoinProgress)
      (fault : PopulationFault)
      → take (n + 1) reports ≡ take n reports ++ bytes ∷ []
      → drop n reports ≡ bytes ∷ drop (n + 1) reports → n ≤ length reports → joined.reports ≡ n
      → HasJoined sums reports n joined (contents first) (contents old)
      → IsWhole n (flushed old) (old ≡ first)
      → ByWriter contents mark flushed old new (AddFails sums bytes joined fault)
      → ByWriter contents mark flushed first new (JoinEnds reports (Err fault) r)
  join-unadded contents mark flushed first old new n bytes joined Read more next within counts has
      whole stopped = absurd stopped
  join-unadded contents mark flushed first old new n bytes joined (Line line fault) more next within
      counts has whole stopped = absurd stopped
  join-unadded contents mark flushed first old new n bytes joined (Engine fault) more next within
      counts has whole stopped = absurd stopped
  join-unadded contents mark flushed first old new n bytes joined (Write sent) more next within
      counts has whole stopped =
      let part = stopped.1.0 in
      let k = stopped.1.2.0 in
      let place : sent ≡ length has.0 + k = (let e : Write sent ≡ Write (joined.sent + k) =
      stopped.1.2.1 in let same : sent ≡ joined.sent + k = cc in omega (arith, same, has.3)) in
      let text = sent-of has.0 part.lines (joined.polls + part.polls) k stopped.1.2.2 in
      let parts = parts-snoc sums 0 (take n reports) joined.next has.0 joined.polls has.1 bytes part
      stopped.1.1.0 stopped.1.1.1 in (
        clear,
        stopped.0,
        was-read _ (λ plan are. (
          n + 1,
          joined.next + part.range.count,
          has.0 ++ part.lines,
          joined.polls + part.polls,
          rw more parts,
          rw place text.0,
          rw (place, text.1) (Appends-trans (contents first) (contents old) (contents new) has.0
              (take k part.lines) has.2 stopped.1.2.3),
        )),
      )
  join-unadded contents mark flushed first old new n bytes joined (Report number fault) more next
      within counts has whole stopped =
      let same : new ≡ old = stopped.3 in
      let before : HasJoined sums reports n joined (contents first) (contents new) = rw same has in
      let wrote : IsWhole n (flushed new) (new ≡ first) = rw same whole in (
        clear,
        stopped.0,
        was-read _ (λ plan are. (
          n,
          joined.next,
          joined.polls,
          bytes,
          drop (n + 1) reports,
          rw counts at stopped.1,
          next,
          (before.0, within, before.1, before.2, wrote),
          stopped.2,
        )),
      )
  join-unadded contents mark flushed first old new n bytes joined (Missing later) more next within
      counts has whole stopped = absurd stopped
  join-unadded contents mark flushed first old new n bytes joined (Words fault) more next within
      counts has whole stopped = absurd stopped

  module _ (n : ℕ) (joined : JoinProgress) (before mid : Option (List ℕ)) (all : n ≡ length reports)
      (has : HasJoined sums reports n joined before mid) where
    -- all reports are those of parts
    are-parts : AreParts sums 0 reports joined.next has.0 joined.polls
    are-parts = rw (take_all n reports (omega (arith, all))) at has.1

    -- all reports were written
    wrote-all : (failed flushed : Bool) (Untouched : Type 0) → IsWhole n flushed Untouched
        → WroteParts reports sums (length reports) joined.next joined.polls
        (record { before = before; taken = mid; failed = failed; flushed = flushed }) Untouched
    wrote-all failed flushed Untouched whole =
        rw (← all) (has.0, omega (arith, all), has.1, has.2, whole)

    -- the last jobs are missing
    pub join-missing : (flushed : Bool) (Untouched : Type 0) → IsWhole n flushed Untouched
        → joined.next < count
        → JoinEnds reports (Err (Missing joined.next)) r
        (record { before = before; taken = mid; failed = false; flushed = flushed }) Untouched
    join-missing flushed Untouched whole few = (
      clear,
      refl,
      was-read _
          (λ plan are. (
            joined.polls,
            omega (arith, few, are),
            wrote-all false flushed Untouched whole,
          )),
    )

    -- memory ran out for the total
    pub join-untold : (flushed : Bool) (Untouched : Type 0) (fault : EngineFault)
        → IsWhole n flushed Untouched
        → JoinEnds reports (Err (Engine fault)) r
        (record { before = before; taken = mid; failed = false; flushed = flushed }) Untouched
    join-untold flushed Untouched fault whole = (
      clear,
      refl,
      was-read _
          (λ plan are. (joined.next, joined.polls, wrote-all false flushed Untouched whole)),
    )

    -- the total went out in part
    pub join-unwritten : (taken : Option (List ℕ)) (flushed : Bool) (Untouched : Type 0)
        (text : List ℕ) (k : ℕ) → text ≡ with_total [] joined.polls → k ≤ length text
        → Appends mid taken (take k text)
        → JoinEnds reports (Err (Write (joined.sent + k))) r
        (record { before = before; taken = taken; failed = true; flushed = flushed }) Untouched
    join-unwritten taken flushed Untouched text k is within writes =
        let lines : List ℕ = has.0 in
        let whole : with_total lines joined.polls ≡ lines ++ text =
        ap (λ (bs : List ℕ). with_total bs joined.polls) (sym (append-nil lines))
        ∙ with_total-append lines [] joined.polls
        ∙ ap (λ (bs : List ℕ). lines ++ bs) (sym is) in
        let place : joined.sent + k ≡ length lines + k = omega (arith, has.3) in
        let part : take (joined.sent + k) (with_total lines joined.polls) ≡ lines ++ take k text =
        ap (λ (bs : List ℕ). take (joined.sent + k) bs) whole ∙ ap (λ i. take i (lines ++ text))
        place ∙ take-append-add lines text k in (
          clear,
          refl,
          was-read _ (λ plan are. (
            n,
            joined.next,
            lines,
            joined.polls,
            has.1,
            omega (
              arith,
              ap (λ (bs : List ℕ). length bs) whole,
              length-append lines text,
              place,
              within,
            ),
            rw part (Appends-trans before mid taken lines (take k text) has.2 writes),
          )),
        )

    -- all was written
    pub join-well : (taken : Option (List ℕ)) (flushed : Bool) (Untouched : Type 0) (text : List ℕ)
        (done : Unit {0}) → text ≡ with_total [] joined.polls → count ≤ joined.next
        → Appends mid taken text → flushed ≡ true
        → JoinEnds reports (Ok done) r
        (record { before = before; taken = taken; failed = false; flushed = flushed }) Untouched
    join-well taken flushed Untouched text done is far writes flush =
        let lines : List ℕ = has.0 in
        let whole : with_total lines joined.polls ≡ lines ++ text =
        ap (λ (bs : List ℕ). with_total bs joined.polls) (sym (append-nil lines))
        ∙ with_total-append lines [] joined.polls ∙ ap (λ (bs : List ℕ). lines ++ bs)
        (sym is) in (
          clear,
          refl,
          was-read _ (λ plan are. (
            joined.next,
            lines,
            joined.polls,
            are-parts,
            omega (arith, far, are),
            rw whole (Appends-trans before mid taken lines text has.2 writes),
          )),
          flush,
        )
