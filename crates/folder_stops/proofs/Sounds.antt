-- What a change of the names or of the files leaves of the file numbers.
use Rattle.std.proofs.Common.{Bool, List, Some, [], ap, arith, inl, length, length-append}
use Rattle.std.proofs.Common.{length-set, refl, slice_set, subst, sym, ℕ, ⊎_elim, ◌++◌, ◌+◌, ◌<◌}
use Rattle.std.proofs.Common.{◌∙◌, ◌∷◌, ◌≡◌, ◌≢◌, ◌≤◌}
use Rattle.std.proofs.Math.ListN.{get_or-append}
use Rattle.disk_model.specs.State.{File, Name, State, barrier, durable, file_at, with_made}
use Rattle.disk_model.specs.State.{with_names, without}
use Rattle.folder_stops.specs.Rows.{Sound}
use Rattle.folder_stops.specs.Words.{Among}
use Rattle.folder_stops.proofs.Rows.{named}
use Rattle.folder_stops.proofs.Words.{among_without, same}

pub file_before : (files : List File) (f : File) (k : ℕ) → k < length files
    → file_at (files ++ f ∷ []) k ≡ file_at files k
file_before files f k lt = get_or-append files (f ∷ []) (durable [] 0) k lt

-- a file gets another content, and the clock goes on
abbrev pub with_file_at : ℕ → File → ℕ → State → State
with_file_at n file clock' s = record s { files = slice_set s.files n file; clock = clock' }

module _ (home : List ℕ → Bool) where
  -- other names, and the old ones beside them
  pub sound_push : (names' : List Name) (files' : List File) (clock' : ℕ) (s : State) → Sound home s
      → length s.files ≤ length files'
      → ((x : Name) (n : ℕ) → Among x names' → x.file ≡ Some n → n < length files')
      → ((x y : Name) (n : ℕ) → Among x names' → Among y names' → x.file ≡ Some n → y.file ≡ Some n
      → x.path ≡ y.path)
      → ((row : List Name) (y x : Name) (n : ℕ) → Among row (s.names ∷ s.earlier) → Among y row
      → Among x names' → y.file ≡ Some n → x.file ≡ Some n → home y.path ≡ home x.path)
      → Sound home (record {
        names = names';
        earlier = s.names ∷ s.earlier;
        files = files';
        clock = clock';
      })
  sound_push names' files' clock' s sound more fits shared old = record {
    below = λ row x n in_rows in_row file. ⊎_elim
        (λ (is : row ≡ names'). fits x n (subst (Among x) is in_row) file)
        (λ (was : Among row (s.names ∷ s.earlier)). let lt = sound.below row x n was in_row file in
        omega arith)
        in_rows;
    alike = λ row x y n in_rows in_row in_names file file'. ⊎_elim
        (λ (is : row ≡ names'). ap home
        (shared x y n (subst (Among x) is in_row) in_names file file'))
        (λ (was : Among row (s.names ∷ s.earlier)). old row x y n was in_row in_names file file')
        in_rows;
    shared = shared;
  }

  pub sound_less : (path : List ℕ) (s : State) → Sound home s
      → Sound home (with_names (without path s.names) s)
  sound_less path s sound = sound_push (without path s.names) s.files s.clock s sound (omega arith)
      (λ x n in_it file. sound.below s.names x n (inl refl) (among_without x path s.names in_it).0
      file)
      (λ x y n in_x in_y. sound.shared x y n (among_without x path s.names in_x).0
      (among_without y path s.names in_y).0)
      (λ row y x n in_rows in_row in_it.
      sound.alike row y x n in_rows in_row (among_without x path s.names in_it).0)

  pub sound_made : (path bytes : List ℕ) (s : State) → Sound home s
      → Sound home (with_made path bytes s)
  sound_made path bytes s sound =
      sound_push (named path (length s.files) ∷ s.names) (s.files ++ durable bytes s.clock ∷ [])
      (s.clock + 1) s sound (omega (arith, size))
      (λ x n in_it file. ⊎_elim
      (λ (is : x ≡ named path (length s.files)). let e = number x n is file in
      omega (arith, e, size))
      (λ (later : Among x s.names). let lt = sound.below s.names x n (inl refl) later file in
      omega (arith, lt, size))
      in_it)
      (λ x y n in_x in_y file file'. ⊎_elim {C = x.path ≡ y.path}
      (λ (is : x ≡ named path (length s.files)). ⊎_elim {C = x.path ≡ y.path}
      (λ (is' : y ≡ named path (length s.files)). ap (λ (z : Name). z.path) (is ∙ sym is'))
      (λ (later : Among y s.names). absurd (all_stay s.names y x n (inl refl) later is file' file))
      in_y)
      (λ (later : Among x s.names). ⊎_elim {C = x.path ≡ y.path}
      (λ (is' : y ≡ named path (length s.files)). absurd
      (all_stay s.names x y n (inl refl) later is' file file'))
      (λ (later' : Among y s.names). sound.shared x y n later later' file file')
      in_y)
      in_x)
      (λ row y x n in_rows in_row in_it file file'. ⊎_elim {C = home y.path ≡ home x.path}
      (λ (is : x ≡ named path (length s.files)). absurd
      (all_stay row y x n in_rows in_row is file file'))
      (λ (later : Among x s.names). sound.alike row y x n in_rows in_row later file file')
      in_it)
    where
      size : length (s.files ++ durable bytes s.clock ∷ []) ≡ length s.files + 1
      size = length-append s.files (durable bytes s.clock ∷ [])

      number : (x : Name) (n : ℕ) → x ≡ named path (length s.files) → x.file ≡ Some n
          → length s.files ≡ n
      number x n is file = let e : x.file ≡ Some (length s.files) = ap (λ (y : Name). y.file) is in
          cc

      all_stay : (row : List Name) (y x : Name) (n : ℕ) → Among row (s.names ∷ s.earlier)
          → Among y row → x ≡ named path (length s.files) → y.file ≡ Some n → x.file ≡ Some n → ⊥
      all_stay row y x n in_rows in_row is file file' = let lt =
          sound.below row y n in_rows in_row file in let e = number x n is file' in
          omega (arith, lt, e)

  pub sound_moved : (from to : List ℕ) (n : ℕ) (s : State) → Among (named from n) s.names
      → home from ≡ home to → Sound home s
      → Sound home (with_names (named to n ∷ without to (without from s.names)) s)
  sound_moved from to n s there same sound =
      sound_push (named to n ∷ without to (without from s.names)) s.files s.clock s sound
      (omega arith)
      (λ x k in_it file. ⊎_elim
      (λ (is : x ≡ named to n). sound.below s.names (named from n) k (inl refl) there
      (ap Some (number x k is file)))
      (λ (later : Among x (without to (without from s.names))). sound.below s.names x k (inl refl)
      (old x later).0 file)
      in_it)
      (λ x y k in_x in_y file file'. ⊎_elim {C = x.path ≡ y.path}
      (λ (is : x ≡ named to n). ⊎_elim {C = x.path ≡ y.path}
      (λ (is' : y ≡ named to n). ap (λ (z : Name). z.path) (is ∙ sym is'))
      (λ (later : Among y (without to (without from s.names))). absurd
      (not_both x y k is later file file'))
      in_y)
      (λ (later : Among x (without to (without from s.names))). ⊎_elim {C = x.path ≡ y.path}
      (λ (is' : y ≡ named to n). absurd (not_both y x k is' later file' file))
      (λ (later' : Among y (without to (without from s.names))). sound.shared x y k (old x later).0
      (old y later').0 file file')
      in_y)
      in_x)
      (λ row y x k in_rows in_row in_it file file'. ⊎_elim {C = home y.path ≡ home x.path}
      (λ (is : x ≡ named to n). sound.alike row y (named from n) k in_rows in_row there file
      (ap Some (number x k is file')) ∙ same ∙ sym (ap (λ (z : Name). home z.path) is))
      (λ (later : Among x (without to (without from s.names))). sound.alike row y x k in_rows in_row
      (old x later).0 file file')
      in_it)
    where
      old : (x : Name) → Among x (without to (without from s.names)) → Among x s.names
          × (x.path ≢ from)
      old x later = among_without x from s.names (among_without x to (without from s.names) later).0

      number : (x : Name) (k : ℕ) → x ≡ named to n → x.file ≡ Some k → n ≡ k
      number x k is file = let e : x.file ≡ Some n = ap (λ (y : Name). y.file) is in cc

      not_both : (x y : Name) (k : ℕ) → x ≡ named to n → Among y (without to (without from s.names))
          → x.file ≡ Some k → y.file ≡ Some k → ⊥
      not_both x y k is later file file' =
          (old y later).1 (sound.shared y (named from n) k (old y later).0 there file'
          (ap Some (number x k is file)))

  pub sound_files : (files' : List File) (clock' : ℕ) (s : State) → Sound home s → length files'
      ≡ length s.files
      → Sound home (record { names = s.names; earlier = s.earlier; files = files'; clock = clock' })
  sound_files files' clock' s sound size = record {
    below = λ row x n in_rows in_row file. let lt = sound.below row x n in_rows in_row file in
        omega arith;
    alike = sound.alike;
    shared = sound.shared;
  }

  pub sound_set : (n : ℕ) (file : File) (clock' : ℕ) (s : State) → Sound home s
      → Sound home (with_file_at n file clock' s)
  sound_set n file clock' s sound =
      sound_files (slice_set s.files n file) clock' s sound (length-set s.files n file)

  pub sound_barrier : (s : State) → Sound home s → Sound home (barrier s)
  sound_barrier s sound = record {
    below = λ row x n in_rows. ⊎_elim
        (λ (is : row ≡ s.names). sound.below row x n (inl is))
        (λ (no : ⊥). absurd no)
        in_rows;
    alike = λ row x y n in_rows. ⊎_elim
        (λ (is : row ≡ s.names). sound.alike row x y n (inl is))
        (λ (no : ⊥). absurd no)
        in_rows;
    shared = sound.shared;
  }
