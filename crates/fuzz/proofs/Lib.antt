mod Lending
