mod Noted
mod Asked
mod InitialHistory
