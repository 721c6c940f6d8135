-- The driver's own method is called through its vtable, with the references handed on for good.
use Rattle.std.proofs.Common.{[], ◌∷◌, refl}
use Rattle.std.proofs.raw_atomic.Walks.{proved, leaves}
use base.Logic.{emp, id⊢}
use base.Fml.{ftrue, flft, Incl-trans}
use base.Share
use contract.BorrowLft.{◌⊑◌, ⊑_refl, meet_⊑_right}
use contract.Monad.{fact, fact_i}
use contract.Running.{tables}
use mir.Syntax.{method, no_args, named, ty_ref, ty_unit, imm}
use types.Kit.{‵, raw, ◌⊛◌, some, later, ◌$◌, ◌∵◌, !, qed, await, move, drop, use0, use1, use2}
use types.Kit.{split}
use types.Kit.{join, fsplit, fjoin, fpick, pick, suffices, done}
use types.Part.{whole, sub}
use types.Run.{enter, of_opd, un, addr, stop, fld, no_more, and_then, returns}
use types.ByLocal.{alloc_all, pass_all, free_all, look_at, get, get_in, through, sets, lands_as}
use denote.Builtin.{u8, unit}
use denote.Param.Laws.{Laws, of_field}
use denote.Param.Shared.{copy_shared}
use denote.Struct.Field.{unit-field}
use denote.Struct.Laws.{unit-laws, unit-copy}
use denote.Slice.{shr_slice_vals, shr_slice_Tells, shr_slice_Lawful}
use denote.Text.{StrRefOf, str-laws}
use denote.Exit.{yes}
use denote.FnPtr.{Calls-via}
use denote.Laws.{Is, shows}
use denote.Param.Any.{any_Tells}
use denote.Param.Table.{any_val, Includes-none}
use denote.RattleType.{owns}
use denote.Ref.{mut_vals, mut_Tells, shr_Tells, shr_entry, shr_vals}
use denote.Signature.{plain, named_lft, types_at, shr_ref_to, shr_slice_of}
use denote.Steps.{peeks}
use denote.Triple.Clauses.{Lasts, lasts, at_exit}
use denote.Triple.Spec.{triple_of}
use denote.Triple.Table.{framed}
use denote.Triple.Walked.{Stays, walk_of, stay_dropped, gave_ref, Goes-dropped, Goes-gave_ref}
use Rattle.std.specs.contracts.alloc.Global.{the_row as heap}
use Rattle.std.specs.contracts.result.Result.{the_row as result}
use Rattle.std.proofs.alloc.Global.TheLaws as heap_laws
use Rattle.std.proofs.result.Result.TheLaws.{the_row_laws as result_laws}
use Rattle.mail_base.specs.contracts.series.Series.{the_row as series}
use Rattle.disk_model.specs.contracts.device.Device.{the_row as device}
use Rattle.folder_letters.specs.contracts.letter.Letter.{the_row as letter}
use Rattle.folder_changes.specs.contracts.item.Item.{the_row as item}
use Rattle.folder_changes.specs.contracts.sync_error.SyncError.{the_row as error}
use Rattle.folder_changes.proofs.sync_error.SyncError.TheLaws.{the_row_laws as error_laws}
use Rattle.folder_drivers.specs.contracts.driver.Driver.append as g
use Rattle.folder_drivers.specs.contracts.drivers.append_at as f
use Rattle.folder_drivers.specs.contracts.drivers.append_at.dyn-1 as driver
use Rattle.folder_drivers.specs.contracts.drivers.append_at.dyn-2 as disk
use Rattle.folder_drivers.proofs.drivers.append_at.Statement.{statement}
use Rattle.folder_drivers.proofs.drivers.append_at.Code as code

unit_ok : Laws unit
unit_ok = of_field unit-field unit-laws refl (copy_shared unit-field unit-copy)

pub append_at_spec : {M : Type 1} → statement M
append_at_spec 𝓤 𝓛 𝓜 𝓡 wired T T-has U U-has each disks =
    let D = device (disk.Any U).2 (disk.Any U).3 in let Res = result unit error in let t = f.ended
    T U in
    let self = plain (λ κs. (driver.Any T).0 (named_lft 6 0 tt κs)) in
    let lent2 = StrRefOf (2 ∷ []) tt in
    let lent3 = shr_slice_of (3 ∷ []) tt (plain (λ _. u8)) in
    let lent4 = shr_ref_to (4 ∷ []) tt (plain (λ _. series letter)) in
    let lent5 = shr_ref_to (5 ∷ []) tt (plain (λ _. item)) in
    let stayed : Stays t.signature.params t.kept = (
      stay_dropped self yes,
      (
        stay_dropped (plain (λ _. heap)) yes,
        (
          gave_ref (1 ∷ []) tt (plain (λ
              _. D)),
          (
            stay_dropped lent2 yes,
            (
              stay_dropped lent3 yes,
              (
                stay_dropped lent4 yes,
                (stay_dropped lent5 yes, tt),
              ),
            ),
          ),
        ),
      ),
    ) in
    let c = f.clauses T U 𝓛 𝓜.mem 𝓡.returns in let W = walk_of 𝓛 t stayed c in let ρ = ty_ref
    (named 0) imm ty_unit in
    proved 𝓛 t stayed c 𝓜 𝓡 (
      Goes-dropped 𝓛 6 self yes (λ κs x w. refl),
      (
        Goes-dropped 𝓛 6 (plain (λ _. heap)) yes (λ κs x
            w. refl),
        (
          Goes-gave_ref 𝓛 6 1 tt (plain (λ _. D)),
          (
            Goes-dropped 𝓛 6 lent2 yes (λ κs x w.
                refl),
            (
              Goes-dropped 𝓛 6 lent3 yes (λ κs x w. refl),
              (
                Goes-dropped 𝓛 6 lent4 yes (λ κs x w.
                    refl),
                (Goes-dropped 𝓛 6 lent5 yes (λ κs x w. refl), tt),
              ),
            ),
          ),
        ),
      ),
    )
    f.Key.name code.function (code.unfolded 𝓤 𝓛.H 𝓜 𝓡 wired)
    (λ κs. (
      λ z. any_val driver.name ρ driver.slots T.0 (named 0) κs.0 z ∷ [],
      (
        λ h.
            heap_laws.lowers.lowered h ∷ [],
        (
          mut_vals,
          (
            shr_slice_vals,
            (
              shr_slice_vals,
              (
                shr_vals,
                (shr_vals, tt),
              ),
            ),
          ),
        ),
      ),
    ))
    (λ κs. (
      any_Tells driver.name ρ driver.slots T.0 (named 0) κs.0,
      (
        heap_laws.lowers.val_is,
        (
          mut_Tells (named 1) κs.1.0 D,
          (
            (str-laws (record {
              mir = named 2;
              lft = κs.1.1.0;
            })).tells,
            (
              shr_slice_Tells (named 3) κs.1.1.1.0 u8,
              (
                shr_Tells (named 4) κs.1.1.1.1.0
                    (series letter),
                (shr_Tells (named 5) κs.1.1.1.1.1.0 item, tt),
              ),
            ),
          ),
        ),
      ),
    ))
    (λ κs qs bounds a _ are.
    let κ = κs.0 in let q = qs.0 in let z = a.0 in let x = shr_entry z in let h = a.1.0 in
    let e = T.0.entry z.now.0 in let R = e.0 in let d = driver.own e.2 in
    let vs = any_val driver.name ρ driver.slots T.0 (named 0) κ z ∷ [] in let hs =
    heap_laws.lowers.lowered h ∷ [] in
    let y : W.Ghost = (
      (
        κs,
        qs,
        bounds,
        a,
        (
          vs,
          (
            hs,
            (
              mut_vals a.1.1.0,
              (
                shr_slice_vals a.1.1.1.0,
                (
                  shr_slice_vals a.1.1.1.1.0,
                  (
                    shr_vals a.1.1.1.1.1.0,
                    (
                      shr_vals a.1.1.1.1.1.1.0,
                      tt,
                    ),
                  ),
                ),
              ),
            ),
          ),
        ),
      ),
      tt,
    ) in
    qed 𝓛 (((‵ (flft κ q) ⊛ ‵ (flft κs.1.0 qs.1.0) ⊛ ‵ (flft κs.1.1.0 qs.1.1.0) ⊛ ‵ (flft
    κs.1.1.1.0 qs.1.1.1.0) ⊛ ‵ (flft κs.1.1.1.1.0 qs.1.1.1.1.0) ⊛ ‵ (flft κs.1.1.1.1.1.0
    qs.1.1.1.1.1.0) ⊛ ‵ ftrue) ⊛ ‵ (owns (types_at t.signature.params κs) a y.0.4)) ∷ raw ((c
    κs a).requires tt) ∷ []) ∵
    split ! $ move ! (1 ∷ []) $ fsplit ! $ fsplit ! $ fpick ! (λ long. drop ! $ fsplit ! $ drop ! $
    -- [self; the other arguments; the tokens; what is required]
    enter ! _ _ _ _ _ $ alloc_all !
    (λ l. pass_all ! refl (
      (tt, (tt, (tt, tt))),
      (
        ((heap_laws.the_row_laws.lawful 𝓛).typed h hs
            are.1.0).0,
        (
          (tt, tt),
          (
            (((str-laws (record { mir = named 2; lft = κs.1.1.0 })).lawful
                𝓛).typed a.1.1.1.0 (shr_slice_vals a.1.1.1.0) are.1.1.1.0).0,
            (
              ((shr_slice_Lawful 𝓛 (named
                  3) κs.1.1.1.0 u8).typed a.1.1.1.1.0 (shr_slice_vals a.1.1.1.1.0) are.1.1.1.1.0).0,
              (
                (
                  tt,
                  tt,
                ),
                ((tt, tt), tt),
              ),
            ),
          ),
        ),
      ),
    ) $
    sets ! (of_opd ! (get ! refl)) refl (tt, (tt, (tt, tt))) $
    sets ! (addr ! (through ! refl (stop !))) refl (tt, tt) $
    sets ! (un ! (get_in ! (fld ! refl (stop !)) (sub ! 1 refl (whole !))) tt) refl (tt, tt) $
    let G = triple_of 𝓛 (g.signature R e.1 d d U) (g.spec R e.1 d d U 𝓛 𝓜.mem 𝓡.returns) in
    let ge = g.ended R e.1 d d U in let gc = g.clauses R e.1 d d U 𝓛 𝓜.mem 𝓡.returns in
    let n : G.Ghost = (
      (
        (
          κ,
          (
            κs.1.0,
            (
              κs.1.1.0,
              (
                κs.1.1.1.0,
                (
                  κs.1.1.1.1.0,
                  (
                    κs.1.1.1.1.1.0,
                    (
                      κ,
                      tt,
                    ),
                  ),
                ),
              ),
            ),
          ),
        ),
        (
          Share.left q,
          (
            qs.1.0,
            (
              qs.1.1.0,
              (
                qs.1.1.1.0,
                (
                  qs.1.1.1.1.0,
                  (
                    qs.1.1.1.1.1.0,
                    (Share.right q, tt),
                  ),
                ),
              ),
            ),
          ),
        ),
        (⊑_refl κ, tt),
        (x, a.1),
        (shr_vals x, y.0.4.1),
      ),
      tt,
    ) in
    let inside : κ ⊑ R.lives = Incl-trans long (meet_⊑_right κ R.lives) in
    move ! (2 ∷ []) $ split ! $ move ! (1 ∷ []) $ split ! $ move ! (1 ∷ []) $ split ! $ move ! (1 ∷
    []) $ split ! $ move ! (1 ∷ []) $ split ! $ move ! (1 ∷ []) $ split ! $
    move ! (6 ∷ []) $ use1 𝓛 (‵ (flft κ (Share.left q)) ⊛ ‵ (flft κ (Share.right q)))
    (𝓛.lfts.lft_split κ q) $ split ! $
    move ! (1 ∷ 3 ∷ []) $ join ! $ move ! (2 ∷ 0 ∷ []) $ join ! $ move ! (2 ∷ 0 ∷ []) $ join ! $
    move ! (2 ∷ 0 ∷ []) $ join ! $ move ! (2 ∷ 0 ∷ []) $ join ! $ move ! (2 ∷ 0 ∷ []) $ join !
    $ move ! (1 ∷ 0 ∷ []) $ join ! $
    move ! (1 ∷ 2 ∷ []) $ fjoin ! $ move ! (1 ∷ 0 ∷ []) $ join ! $
    move ! (1 ∷ []) $ use0 𝓛 (raw (fact 𝓤 (κ ⊑ R.lives))) (fact_i 𝓤 (κ ⊑ R.lives) (emp 𝓤) inside) $
    join ! $
    move ! (1 ∷ 0 ∷ []) $ join ! $ use1 𝓛 (raw (G.pre n)) (id⊢ 𝓤 _) $
    Calls-via ! (framed 𝓤 𝓛.H 𝓜 (tables 𝓤 𝓛.H 𝓜 𝓡 𝓡.env)) (method d 4 no_args) G
    ((each z.now.0).0.append d U (Includes-none U.0) disks) n
    (get ! refl) (and_then ! (get_in ! (fld ! refl (stop !)) (sub ! 0 refl (whole !))) (and_then !
    (get ! refl) (and_then ! (get ! refl) (and_then ! (get ! refl) (and_then ! (get ! refl)
    (and_then ! (get ! refl) (and_then ! (get ! refl) (no_more !)))))))) (λ v.
    use1 𝓛 (later (some (λ (s : Res.Denot). ((‵ (flft κ (Share.left q)) ⊛ ‵ (flft κs.1.0 qs.1.0) ⊛
    ‵ (flft κs.1.1.0 qs.1.1.0) ⊛ ‵ (flft κs.1.1.1.0 qs.1.1.1.0) ⊛ ‵ (flft κs.1.1.1.1.0
    qs.1.1.1.1.0) ⊛ ‵ (flft κs.1.1.1.1.1.0 qs.1.1.1.1.1.0) ⊛ ‵ (flft κ (Share.right q)) ⊛ ‵
    ftrue) ⊛ ‵ (Res.own_val s (v ∷ [])))
    ⊛ some (λ (ws : Lasts ge n.0.0 n.0.3). ‵ (lasts ge n.0.0 n.0.3 ws) ⊛ raw ((gc n.0.0
    n.0.3).ensures tt s (at_exit ge n.0.0 n.0.3 ws)))))) (id⊢ 𝓤 _) $ await ! tt $
    pick ! (λ s. split ! $ split ! $ move ! (2 ∷ []) $ pick ! (λ ws. split ! $ move ! (3 ∷ []) $
    -- [the result; the last values; what is ensured; the tokens; the locals]
    peeks ! Res (Is Res) (shows 𝓛 Res) s (v ∷ []) (λ is. lands_as ! refl refl (((result_laws unit
    error unit_ok error_laws).lawful 𝓛).typed s (v ∷ []) is).0 $
    returns ! (look_at ! 0 refl) $ free_all ! refl $
    move ! (3 ∷ []) $ split ! $ move ! (1 ∷ []) $ split ! $ move ! (1 ∷ []) $ split ! $ move ! (1 ∷
    []) $ split ! $ move ! (1 ∷ []) $ split ! $ move ! (1 ∷ []) $ split ! $ move ! (1 ∷ []) $
    split ! $
    move ! (7 ∷ 0 ∷ []) $ use2 𝓛 (‵ (flft κ q)) (𝓛.lfts.lft_join κ q) $
    move ! (2 ∷ 1 ∷ []) $ join ! $ move ! (2 ∷ 0 ∷ []) $ join ! $ move ! (2 ∷ 0 ∷ []) $ join ! $
    move ! (2 ∷ 0 ∷ []) $ join ! $ move ! (2 ∷ 0 ∷ []) $ join ! $ move ! (1 ∷ 0 ∷ []) $ join ! $
    suffices ! _ (leaves 𝓛 t stayed c y v s ws (tt, (tt, (tt, (tt, (tt, (tt, (tt, tt)))))))) $ move
    ! (0 ∷ 2 ∷ 1 ∷ []) $ done !)))))))
