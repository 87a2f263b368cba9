use Rattle.std.proofs.Common.{◌≡◌, Bool, Option, List, ℕ, Result, Ok, Err, None, Some, ap, ◌∙◌, sym, subst}
use Rattle.std.specs.Prelude.{◌++◌, ◌∷◌, [], if◌then◌else◌, is_some, option_copied}
use Rattle.record_store.specs.Into.{told_into}
use Rattle.record_store.specs.Meaning.{value_at, after_read}
use Rattle.engine_answers.specs.declared.faults.TxnFault.{TxnFault}
use Rattle.txn_engine.specs.Pass.{PassView, IsAlone, frame, store_of}
use Rattle.txn_engine.specs.Accounts.{accounted}
use Rattle.txn_engine.specs.Faults.{told_by}
use Rattle.txn_engine.specs.Txn.{notes, Reads}
use Rattle.seat_post.specs.Leaves.{LeavesValue}
use Rattle.seat_post.specs.Observing.{Grows}
use Rattle.seat_post.specs.Post.{PostView, known_at, noted, observing}
use Rattle.txn_engine.specs.Fresh.{NotesFound}
use Rattle.txn_engine.proofs.Passes.{none_found, known_written, known_unwritten, known_noted}
use Rattle.txn_engine.proofs.Answering.{handed_on, stopped_reads, known_reads}
use Rattle.txn_engine.proofs.Growing.{reads_as_grows}
use Rattle.txn_engine.proofs.at_pass.PassSeatCalls.read_into.Goals as goal

pub returns-in_err-stopped-clause-reads : goal.returns-in_err-stopped-clause-reads
returns-in_err-stopped-clause-reads g c =
    let p = c.args.self.now in let q = c.stopped.new.self in let f = c.in_err-stopped.field-0.0 in
    handed_on c.from_residual.result f (λ (r : Result Bool TxnFault). Reads p q c.args.rid (told_by (λ e. e) (told_into r c.args.into.now))) c.from_residual.ensures.1 (stopped_reads p q c.args.rid f c.in_err-stopped.ensures.err)

pub returns-in-Some-clause-reads : goal.returns-in-Some-clause-reads
returns-in-Some-clause-reads g c =
    let a = c.args.self.now in let p = c.self.inside.post in let begun = c.in_ok-stopped.ensures.ok.0 in
    let same = c.self.view_is ∙ begun in
    let value = c.in-Some.value.now in
    let written : Some value ≡ value_at p.writes c.args.rid = sym (ap option_copied c.in-Some.is) ∙ c.written.ensures in
    let some : known_at a.post c.args.rid ≡ Some value = sym (ap (λ (x : PassView). known_at x.post c.args.rid) same) ∙ known_written p c.args.rid value written in
    subst (λ (v : Option (List ℕ)). Reads a c.stopped.new.self c.args.rid (Ok v)) (sym c.put_value.ensures.value)
    (known_reads a c.stopped.new.self c.args.rid value c.in_ok-stopped.ensures.ok.1 some
    (λ alone unwritten. let none : Some value ≡ None = written ∙ ap (λ (x : PassView). value_at x.writes c.args.rid) same ∙ unwritten in cc) begun)

pub returns-in-Some-version_read-clause-reads : goal.returns-in-Some-version_read-clause-reads
returns-in-Some-version_read-clause-reads g c =
    let a = c.args.self.now in let p = c.self.inside.post in let begun = c.in_ok-stopped.ensures.ok.0 in
    let same = c.self.view_is ∙ begun in
    let value = c.value.result in
    let unwritten : value_at p.writes c.args.rid ≡ None = sym c.written.ensures ∙ ap option_copied (none_found c.written.result c.in_default.not-Some) in
    let read : value_at p.reads c.args.rid ≡ Some value = c.in-Some-version_read.ensures.found ∙ ap Some (sym c.value.ensures.value) in
    let some : known_at a.post c.args.rid ≡ Some value = sym (ap (λ (x : PassView). known_at x.post c.args.rid) same) ∙ known_unwritten p c.args.rid unwritten ∙ read in
    subst (λ (v : Option (List ℕ)). Reads a c.stopped.new.self c.args.rid (Ok v)) (sym c.put_value-in-Some-version_read.ensures.value)
    (known_reads a c.stopped.new.self c.args.rid value c.in_ok-stopped.ensures.ok.1 some
    (λ alone still.
    let left = c.in-Some-version_read.ensures.left (ap (λ (x : PassView). x.phase) same ∙ c.requires.open) (subst (λ (x : PassView). IsAlone x) (sym same) alone) in
    subst (λ (x : PassView). LeavesValue x.log c.args.rid x.stamp value) same (subst (λ (v : Option (List ℕ)). LeavesValue p.log c.args.rid p.stamp v) (sym c.value.ensures.value) left))
    begun)

pub returns-in_err-note-clause-reads : goal.returns-in_err-note-clause-reads
returns-in_err-note-clause-reads g c =
    let b = c.stopped.new.self in let q = c.note.new.self in let f = c.in_err-note.field-0.0 in
    let reads = subst (λ (x : PassView). Reads x q c.args.rid (Err f)) c.in_ok-stopped.ensures.ok.0 c.in_err-note.ensures.notes.err in
    handed_on c.from_residual-in_err-note.result f (λ (r : Result Bool TxnFault). Reads c.args.self.now q c.args.rid (told_by (λ e. e) (told_into r c.args.into.now))) c.from_residual-in_err-note.ensures.1 reads

pub returns-clause-reads : goal.returns-clause-reads
returns-clause-reads g c =
    let p = c.self.inside.post in
    let same = c.self.view_is ∙ c.in_ok-stopped.ensures.ok.0 in
    let b = c.stopped.new.self in
    let begun : b ≡ c.args.self.now = c.in_ok-stopped.ensures.ok.0 in
    let n = c.in_ok-note.ensures.notes in let r = n.reads in
    let unwritten : value_at p.writes c.args.rid ≡ None = sym c.written.ensures ∙ ap option_copied (none_found c.written.result c.in_default.not-Some) in
    let unread : value_at p.reads c.args.rid ≡ None = rw (none_found c.version_read.result c.in_default-version_read.not-Some) at c.version_read.ensures.none in
    let unknown : known_at p c.args.rid ≡ None = known_unwritten p c.args.rid unwritten ∙ unread in
    let unknown_there : known_at b.post c.args.rid ≡ None = sym (ap (λ (x : PassView). known_at x.post c.args.rid) c.self.view_is) ∙ unknown in
    let value : c.value-2.result ≡ r.value = c.value-2.ensures.value ∙ c.last_read.ensures b.reads c.args.rid r.value (ap (λ (x : PassView). x.reads) c.self-2.view_is ∙ ap (λ (x : PostView). x.reads) r.after) in
    let is : c.note.new.self ≡ record b { post = observing (noted b.post c.args.rid r.found.wts c.value-2.result) c.note.new.self.post.observed } =
    n.ok ∙ ap (λ (x : PostView). record b { post = x }) r.after ∙ ap (λ (v : Option (List ℕ)). record b { post = observing (noted b.post c.args.rid r.found.wts v) c.note.new.self.post.observed }) (sym value) in
    subst (λ (v : Option (List ℕ)). Reads c.args.self.now c.note.new.self c.args.rid (Ok v)) (sym c.put_value-2.ensures.value)
    (record {
      ok =
          ap store_of is
          ∙ sym (ap (λ (k : Option (Option (List ℕ))). record (store_of b) { reads = if is_some k then b.reads else b.reads ++ (c.args.rid, c.value-2.result) ∷ [] }) unknown_there)
          ∙ ap (λ (x : PassView). after_read (store_of x) c.args.rid c.value-2.result) begun;
      answered = ap (λ (x : PostView). known_at x c.args.rid) r.after ∙ known_noted b.post c.args.rid r.found.wts r.value unknown_there ∙ ap Some (sym value);
      err = tt;
      spare = ap (λ (x : PassView). x.spare) (n.ok ∙ ap (λ (x : PassView). record x { post = c.note.new.self.post }) begun);
      stays = record {
        same_frame = ap frame is ∙ ap frame begun;
        same_accounts = ap accounted is ∙ ap accounted begun;
        grows = subst (λ (x : PassView). Grows x.observed c.note.new.self.observed) begun (reads_as_grows c.args.rid r.value b.post c.note.new.self.post r.reads);
      };
      refuses = record {
        shown = tt;
        versions = tt;
        noted = ap notes is ∙ ap notes begun;
        stopped = rw c.in_ok-stopped.ensures.ok.1 tt;
        still = rw c.in_ok-stopped.ensures.ok.1 tt;
        records_out = tt;
      };
      meets = λ first. tt;
      never = tt;
      left = λ alone unwritten. rw value (subst (λ (x : PassView). LeavesValue x.log c.args.rid x.stamp r.value) begun (r.left (subst (λ (x : PassView). IsAlone x) (sym begun) alone)));
      found = λ none. rw value (subst (λ (x : PassView). NotesFound x c.args.rid r.value c.note.new.self.versions x.observed c.note.new.self.observed) begun (r.found, ap (λ (x : PostView). x.versions) r.after));
      again = λ first. rw (sym (ap (λ (x : PassView). known_at x.post c.args.rid) begun) ∙ unknown_there) tt;
      no_memory = tt;
    })
