-- The certificate of a file that is taken holds.
use Rattle.std.proofs.Common.{◌≡◌, ℕ, ◌+◌, cond, Bool, true, false, List, [], ◌∷◌, length, take, drop, codes, nat_lt, Option, Some, None, Result, Ok, Err, refl, sym, ap, subst, ◌∙◌}
use Rattle.bf_oid.specs.declared.object.Oid.{Oid}
use Rattle.bf_reading.specs.Reading.{behind}
use Rattle.bf_cert.specs.declared.cert.Cert.{Cert}
use Rattle.bf_cert.specs.Certificates.{Holds}
use Rattle.bf_cert.specs.Lines.{lines_of}
use Rattle.bf_cert.specs.Reading.{go_on, read_version}
use Rattle.bf_cert.proofs.Stages.{Start, read_started}
use Rattle.bf_cert.proofs.Telling.{IsTold, Tells, read_told, reading_tells}
use Rattle.bf_claims.specs.declared.head.Head.{Head}
use Rattle.bf_claims.specs.Goods.{strange}
use Rattle.bf_claims.specs.Heads.{judged, judged_goods, no_head, take_line}
use Rattle.bf_claims.specs.Kinds.{is_last, is_text}
use Rattle.bf_claims.specs.Reading.{beside, read_behind, read_either, read_file, read_head, read_summed}
use Rattle.bf_claims.specs.Sums.{is_sum}
use Rattle.bf_search.specs.Candidates.{is_in}

pub lines_told : (names : List Oid) (graph : List (List ℕ)) (texts : List (List ℕ)) (cert : Cert) → read_version names graph texts ≡ Ok cert → IsTold names graph texts cert
lines_told names graph texts cert is =
    subst (λ (read : Result Cert ℕ). Tells names graph texts read) (sym (read_started names graph texts) ∙ is)
    (reading_tells names graph [] texts 1 Start (record { lines = []; said = refl; is_read = refl; taken = refl }) refl)

by_goods : (is_bad : Bool) (goods : Option ℕ) (before : ℕ) (cert found : Cert)
    → cond is_bad (judged_goods before cert goods) (Err (before + 2)) ≡ Ok found → cert ≡ found
by_goods false goods before cert found h = cc
by_goods true None before cert found h = cc
by_goods true (Some index) before cert found h = cc

pub by_judge : (head : Head) (before : ℕ) (cert found : Cert) → judged head before cert ≡ Ok found → cert ≡ found
unfolding judged
by_judge head before cert found h = by_goods (is_in head.bad cert.bad) (strange head.good 0 cert.goods) before cert found h

by_reading : (last : Bool) (head : Head) (before : ℕ) (read : Result Cert ℕ) (cert : Cert)
    → cond last (beside head before read) (Err (before + 1)) ≡ Ok cert → read ≡ Ok cert
by_reading false head before read cert h = cc
by_reading true head before (Ok found) cert h = ap (λ (c : Cert). Ok c) (by_judge head before found cert h)
by_reading true head before (Err line) cert h = cc

behind_holds : (names : List Oid) (graph : List (List ℕ)) (before : ℕ) (head : Head) (lines : List (List ℕ)) (cert : Cert)
    → read_behind names graph before head lines ≡ Ok cert → Holds graph cert
unfolding read_behind
behind_holds names graph before head lines cert h =
    (lines_told names graph lines cert (by_reading (is_last head.rank) head before (read_version names graph lines) cert h)).holds

by_line : (starts : Bool) (taken : Option Head) (names : List Oid) (graph : List (List ℕ)) (before : ℕ) (head : Head) (line : List ℕ)
    (lines : List (List ℕ)) (cert : Cert)
    → cond starts (read_behind names graph before head (line ∷ lines)) (go_on (before + 1) taken (λ next. read_head names graph (before + 1) next lines)) ≡ Ok cert
    → ((next : Head) → read_head names graph (before + 1) next lines ≡ Ok cert → Holds graph cert) → Holds graph cert
by_line true taken names graph before head line lines cert h more = behind_holds names graph before head (line ∷ lines) cert h
by_line false None names graph before head line lines cert h more = cc
by_line false (Some next) names graph before head line lines cert h more = more next h

head_holds : (names : List Oid) (graph : List (List ℕ)) (before : ℕ) (head : Head) (lines : List (List ℕ)) (cert : Cert)
    → read_head names graph before head lines ≡ Ok cert → Holds graph cert
unfolding read_head
head_holds names graph before head [] cert h = cc
head_holds names graph before head (line ∷ lines) cert h =
    by_line (is_text line (codes "certificate 1\n")) (take_line names head line) names graph before head line lines cert h
    (λ next more. head_holds names graph (before + 1) next lines cert more)

by_sum : (short : Bool) (same : Bool) (read : Result Cert ℕ) (cert : Cert) → cond short (Err 2) (cond same read (Err 2)) ≡ Ok cert → read ≡ Ok cert
by_sum true same read cert h = cc
by_sum false true read cert h = h
by_sum false false read cert h = cc

summed_holds : (names : List Oid) (graph : List (List ℕ)) (text : List ℕ) (cert : Cert) → read_summed names graph text ≡ Ok cert → Holds graph cert
unfolding read_summed
summed_holds names graph text cert h =
    head_holds names graph 2 (no_head (length graph)) (lines_of (drop 69 text)) cert
    (by_sum (nat_lt (length text) 69) (is_sum (take 69 text) (drop 69 text))
    (read_head names graph 2 (no_head (length graph)) (lines_of (drop 69 text))) cert h)

either_holds : (names : List Oid) (graph : List (List ℕ)) (answer : Option (List ℕ)) (bytes : List ℕ) (cert : Cert)
    → read_either names graph answer bytes ≡ Ok cert → Holds graph cert
either_holds names graph (Some text) bytes cert h = summed_holds names graph text cert h
either_holds names graph None bytes cert h = (read_told names graph bytes cert h).holds

pub file_holds : (names : List Oid) (graph : List (List ℕ)) (bytes : List ℕ) (cert : Cert) → read_file names graph bytes ≡ Ok cert → Holds graph cert
file_holds names graph bytes cert h = either_holds names graph (behind (codes "farmdawn-answer 1\n") bytes) bytes cert h
